-- The numbers of `wdw` (01-scope 5.4) and of `wdw_green_lagrange` (5.10): the source's expressions, in its order and under its names; the second has a rest_of of its own. The source's
-- gd0_x, gu0_x and gugu0_xx are gd0 .x, gu0 .x and gugu0 .xx here, and an index 0, 1, 2 is x, y, z.
use Rattle.std.specs.Prelude.{List, [], ◌∷◌, ◌++◌, Float}
use Rattle.std.specs.Float.{Format}
use Rattle.std.specs.Float.Ieee.{neg}
use Rattle.float.specs.Ops.{ops}
use Rattle.del_geo_core.specs.CurveLinearCoords.{contravariant_of}
use Rattle.vec3.specs.Vec3.{dot_of, cross_of, norm_of, over_of, unit_of}
use Rattle.del_geo_core.specs.Tri2.{Tri2}
use Rattle.del_geo_core.specs.Tri3.{Tri3}
use Rattle.vec3.specs.declared.V3.{V3}
use Rattle.edges.specs.Edges.{plane_of, space_of, glstrain_of}
use Rattle.edges.specs.declared.Gd.{Gd}
use Rattle.edges.specs.declared.Gu.{Gu}
use Rattle.strain.specs.declared.GuGu.{GuGu}
use Rattle.strain.specs.declared.Rest.{Rest}
use Rattle.strain.specs.declared.Values.{Values}

-- the nine numbers, corner by corner
abbrev pub flat : Tri3 → List Float
flat p = p.p0.x ∷ p.p0.y ∷ p.p0.z ∷ p.p1.x ∷ p.p1.y ∷ p.p1.z ∷ p.p2.x ∷ p.p2.y ∷ p.p2.z ∷ []

-- from dw[0], dw[1] and dw[2]
unfoldable pub dw_of : (xx yy xy : Tri3) → List Float
dw_of xx yy xy = flat xx ++ flat yy ++ flat xy

module _ (f : Format) where
  open ops f use {◌⊕◌, ◌⊗◌, half, two}

  infixl 75 ◌⊕◌
  infixl 80 ◌⊗◌
  unfoldable pub rest_of : (ini : Tri2) → Rest
  rest_of ini =
      let gd0 = plane_of f ini in
      let cross = cross_of f gd0.x gd0.y in
      let area0 = norm_of f cross ⊗ half in
      let gd0_z = over_of f cross (area0 ⊗ two) in
      record {
        gd0 = gd0;
        gd0_z = gd0_z;
        gu0 = record { x = unit_of f (cross_of f gd0.y gd0_z.v); y = unit_of f (cross_of f gd0_z.v gd0.x) };
      }

  -- the unit normal of 01-scope 3.2, and StVK's scaling (5.5): each contravariant vector by 1 / its dot with its own edge, the first that `contravariant_of` takes
  unfoldable pub rest_of_green_lagrange : (ini : Tri2) → Rest
  rest_of_green_lagrange ini =
      let gd0 = plane_of f ini in
      let gd0_z = unit_of f (cross_of f gd0.x gd0.y) in
      record {
        gd0 = gd0;
        gd0_z = gd0_z;
        gu0 = record { x = contravariant_of f gd0.x gd0.y gd0_z.v; y = contravariant_of f gd0.y gd0_z.v gd0.x };
      }

  unfoldable pub gugu0_of : (gu0 : Gu) → GuGu
  gugu0_of gu0 =
      let x = gu0.x.v in
      let y = gu0.y.v in
      record {
        xx = record { x = x.x ⊗ x.x; y = y.x ⊗ y.x; z = x.x ⊗ y.x };
        yy = record { x = x.y ⊗ x.y; y = y.y ⊗ y.y; z = x.y ⊗ y.y };
        xy = record { x = two ⊗ x.x ⊗ x.y; y = two ⊗ y.x ⊗ y.y; z = x.x ⊗ y.y ⊕ x.y ⊗ y.x };
      }

  unfoldable pub w_of : (glstrain : V3) → GuGu → List Float
  w_of glstrain gugu0 = dot_of f glstrain gugu0.xx ∷ dot_of f glstrain gugu0.yy ∷ dot_of f glstrain gugu0.xy ∷ []

  unfoldable pub hoge_of : (gd1 : Gd) (a b : Float) → V3
  hoge_of gd1 a b = record {
    x = a ⊗ gd1.x.x ⊕ b ⊗ gd1.y.x;
    y = a ⊗ gd1.x.y ⊕ b ⊗ gd1.y.y;
    z = a ⊗ gd1.x.z ⊕ b ⊗ gd1.y.z;
  }

  -- dw[k] by the three corners, where g is gugu0.xx, gugu0.yy or gugu0.xy
  unfoldable pub dw_k_of : (gd1 : Gd) (g : V3) → Tri3
  dw_k_of gd1 g = record {
    p0 = hoge_of gd1 (neg (g.x ⊕ g.z)) (neg (g.y ⊕ g.z));
    p1 = hoge_of gd1 g.x g.z;
    p2 = hoge_of gd1 g.z g.y;
  }

  -- what the source returns: the strain along the edges, taken into the sheet's axes by products of contravariant components
  unfoldable pub values_of : Rest → (def : Tri3) → Values
  values_of rest def =
      let gd1 = space_of f def in
      let gugu0 = gugu0_of rest.gu0 in
      record {
        w = w_of (glstrain_of f rest.gd0 gd1) gugu0;
        dw = dw_of (dw_k_of gd1 gugu0.xx) (dw_k_of gd1 gugu0.yy) (dw_k_of gd1 gugu0.xy);
      }
