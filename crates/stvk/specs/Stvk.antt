-- The numbers of `wdwddw_` (01-scope 5.5): the source's expressions, in its order and under its names. An index 0, 1, 2 of the source is x, y, z here.
use Rattle.std.specs.Prelude.{List, [], ◌∷◌, ℕ, Float, get_or}
use Rattle.std.specs.Float.{Format, nan}
use Rattle.std.specs.Float.Ieee.{neg}
use Rattle.float.specs.Lists.{each, table}
use Rattle.float.specs.Ops.{ops}
use Rattle.del_geo_core.specs.CurveLinearCoords.{contravariant_of}
use Rattle.del_geo_core.specs.Mat3RowMajor.{mult_vec_of}
use Rattle.del_geo_core.specs.Tri3.{unit_normal_area_of}
use Rattle.vec3.specs.Vec3.{dot_of}
use Rattle.del_geo_core.specs.declared.mat3_row_major.Matrix3.{Matrix3}
use Rattle.del_geo_core.specs.declared.tri2.V2.{V2}
use Rattle.del_geo_core.specs.Tri3.{Tri3}
use Rattle.vec3.specs.declared.V3.{V3}
use Rattle.edges.specs.Edges as edges
use Rattle.edges.specs.declared.Gd.{Gd}
use Rattle.edges.specs.declared.Gu.{Gu}
use Rattle.stvk.specs.declared.Rest.{Rest}
use Rattle.stvk.specs.declared.State.{State}

-- one of three by its index
unfoldable pub at_of : List V2 → (i : ℕ) → V2
at_of pairs i = get_or pairs i (record { x = nan; y = nan })

-- gd[0][idim] and gd[1][idim] for idim = 0, 1, 2
unfoldable pub along_of : Gd → List V2
along_of gd = record { x = gd.x.x; y = gd.y.x } ∷ record { x = gd.x.y; y = gd.y.y } ∷ record { x = gd.x.z; y = gd.y.z } ∷ []

module _ (f : Format) where
  open ops f use {◌⊕◌, ◌⊗◌, zero, half, one, two}

  infixl 75 ◌⊕◌
  infixl 80 ◌⊗◌
  -- gd0 and area0; gu0, the inverse of gd0
  unfoldable pub rest_of : (p0 : Tri3) → Rest
  rest_of p0 =
      let normal_area = unit_normal_area_of f p0.p0 p0.p1 p0.p2 in
      let gd0_z = normal_area.normal in
      let gd0 = edges.space_of f p0 in
      record {
        gd0 = gd0;
        gd0_z = gd0_z;
        area0 = normal_area.area;
        gu0 = record { x = contravariant_of f gd0.x gd0.y gd0_z.v; y = contravariant_of f gd0.y gd0_z.v gd0.x };
      }

  -- the strain along the edges, its third component times one
  unfoldable pub glstrain_of : (gd0 gd : Gd) → V3
  glstrain_of gd0 gd = let e = edges.glstrain_of f gd0 gd in record { x = e.x; y = e.y; z = one ⊗ e.z }

  unfoldable pub gugu0_of : (gu0 : Gu) → V3
  gugu0_of gu0 = record { x = dot_of f gu0.x.v gu0.x.v; y = dot_of f gu0.y.v gu0.y.v; z = dot_of f gu0.y.v gu0.x.v }

  unfoldable pub elasticity_tensor_of : (gugu0 : V3) (lambda myu : Float) → Matrix3
  elasticity_tensor_of gugu0 lambda myu = record {
    x = record {
      x = lambda ⊗ gugu0.x ⊗ gugu0.x ⊕ two ⊗ myu ⊗ (gugu0.x ⊗ gugu0.x);
      y = lambda ⊗ gugu0.x ⊗ gugu0.y ⊕ two ⊗ myu ⊗ (gugu0.z ⊗ gugu0.z);
      z = lambda ⊗ gugu0.x ⊗ gugu0.z ⊕ two ⊗ myu ⊗ (gugu0.x ⊗ gugu0.z);
    };
    y = record {
      x = lambda ⊗ gugu0.y ⊗ gugu0.x ⊕ two ⊗ myu ⊗ (gugu0.z ⊗ gugu0.z);
      y = lambda ⊗ gugu0.y ⊗ gugu0.y ⊕ two ⊗ myu ⊗ (gugu0.y ⊗ gugu0.y);
      z = lambda ⊗ gugu0.y ⊗ gugu0.z ⊕ two ⊗ myu ⊗ (gugu0.z ⊗ gugu0.y);
    };
    z = record {
      x = lambda ⊗ gugu0.z ⊗ gugu0.x ⊕ two ⊗ myu ⊗ (gugu0.x ⊗ gugu0.z);
      y = lambda ⊗ gugu0.z ⊗ gugu0.y ⊕ two ⊗ myu ⊗ (gugu0.z ⊗ gugu0.y);
      z = lambda ⊗ gugu0.z ⊗ gugu0.z ⊕ one ⊗ myu ⊗ (gugu0.x ⊗ gugu0.y ⊕ gugu0.z ⊗ gugu0.z);
    };
  }

  -- what the energy and its derivatives are made of; spkstress is the 2nd Piola-Kirchhoff stress
  unfoldable pub state_of : (p0 p1 : Tri3) (lambda myu : Float) → State
  state_of p0 p1 lambda myu =
      let rest = rest_of p0 in
      let gd = edges.space_of f p1 in
      let glstrain = glstrain_of rest.gd0 gd in
      let tensor = elasticity_tensor_of (gugu0_of rest.gu0) lambda myu in
      record { rest = rest; gd = gd; glstrain = glstrain; tensor = tensor; spkstress = mult_vec_of f tensor glstrain }

  unfoldable pub w_of : State → Float
  w_of s = half ⊗ s.rest.area0 ⊗ dot_of f s.glstrain s.spkstress

  -- dNdr[0], dNdr[1] and dNdr[2]
  unfoldable pub dndr_of : List V2
  dndr_of = record { x = neg one; y = neg one } ∷ record { x = one; y = zero } ∷ record { x = zero; y = one } ∷ []

  -- dw[ino][idim]; gi is gd[0][idim] and gd[1][idim], ni is dNdr[ino], and gj, nj below are the same for jdim and jno
  unfoldable pub dw_at_of : (area0 : Float) (spkstress : V3) (gi ni : V2) → Float
  dw_at_of area0 spkstress gi ni =
      area0 ⊗ (spkstress.x ⊗ gi.x ⊗ ni.x ⊕ spkstress.z ⊗ gi.x ⊗ ni.y ⊕ spkstress.z ⊗ gi.y ⊗ ni.x ⊕ spkstress.y ⊗ gi.y ⊗ ni.y)

  unfoldable pub dw_of : State → List Float
  dw_of s = each 3 (λ ino. table 3 (λ idim. dw_at_of s.rest.area0 s.spkstress (at_of (along_of s.gd) idim) (at_of dndr_of ino)))

  -- from +0, term by term
  unfoldable pub dtmp0_of : (e : Matrix3) (gi ni gj nj : V2) → Float
  dtmp0_of e gi ni gj nj =
      zero
      ⊕ gi.x ⊗ ni.x ⊗ e.x.x ⊗ gj.x ⊗ nj.x
      ⊕ gi.x ⊗ ni.x ⊗ e.x.y ⊗ gj.y ⊗ nj.y
      ⊕ gi.x ⊗ ni.x ⊗ e.x.z ⊗ gj.x ⊗ nj.y
      ⊕ gi.x ⊗ ni.x ⊗ e.x.z ⊗ gj.y ⊗ nj.x
      ⊕ gi.y ⊗ ni.y ⊗ e.y.x ⊗ gj.x ⊗ nj.x
      ⊕ gi.y ⊗ ni.y ⊗ e.y.y ⊗ gj.y ⊗ nj.y
      ⊕ gi.y ⊗ ni.y ⊗ e.y.z ⊗ gj.x ⊗ nj.y
      ⊕ gi.y ⊗ ni.y ⊗ e.y.z ⊗ gj.y ⊗ nj.x
      ⊕ gi.x ⊗ ni.y ⊗ e.z.x ⊗ gj.x ⊗ nj.x
      ⊕ gi.x ⊗ ni.y ⊗ e.z.y ⊗ gj.y ⊗ nj.y
      ⊕ gi.x ⊗ ni.y ⊗ e.z.z ⊗ gj.x ⊗ nj.y
      ⊕ gi.x ⊗ ni.y ⊗ e.z.z ⊗ gj.y ⊗ nj.x
      ⊕ gi.y ⊗ ni.x ⊗ e.z.x ⊗ gj.x ⊗ nj.x
      ⊕ gi.y ⊗ ni.x ⊗ e.z.y ⊗ gj.y ⊗ nj.y
      ⊕ gi.y ⊗ ni.x ⊗ e.z.z ⊗ gj.x ⊗ nj.y
      ⊕ gi.y ⊗ ni.x ⊗ e.z.z ⊗ gj.y ⊗ nj.x

  -- the source writes the expression of dw[ino][idim] once more, for dNdr[ino] and dNdr[jno]
  abbrev pub dtmp1_of : (area0 : Float) (spkstress : V3) (ni nj : V2) → Float
  dtmp1_of area0 spkstress ni nj = dw_at_of area0 spkstress ni nj

  -- dtmp0 * area0 for jdim = 0, 1, 2; g is gd[0][jdim] and gd[1][jdim] for each
  unfoldable pub row_of : State → (g : List V2) (gi ni nj : V2) → V3
  row_of s g gi ni nj = record {
    x = dtmp0_of s.tensor gi ni (at_of g 0) nj ⊗ s.rest.area0;
    y = dtmp0_of s.tensor gi ni (at_of g 1) nj ⊗ s.rest.area0;
    z = dtmp0_of s.tensor gi ni (at_of g 2) nj ⊗ s.rest.area0;
  }

  -- a block of three rows; dtmp1 comes to its entries 0, 4 and 8
  unfoldable pub block_of : (x y z : V3) (dtmp1 : Float) → List Float
  block_of x y z dtmp1 = x.x ⊕ dtmp1 ∷ x.y ∷ x.z ∷ y.x ∷ y.y ⊕ dtmp1 ∷ y.z ∷ z.x ∷ z.y ∷ z.z ⊕ dtmp1 ∷ []

  -- ddw[ino][jno]
  abbrev pub ddw_at_of : State → (g : List V2) (ni nj : V2) → List Float
  ddw_at_of s g ni nj =
      block_of (row_of s g (at_of g 0) ni nj) (row_of s g (at_of g 1) ni nj) (row_of s g (at_of g 2) ni nj) (dtmp1_of s.rest.area0 s.spkstress ni nj)

  unfoldable pub ddw_of : State → List Float
  ddw_of s = each 3 (λ ino. each 3 (λ jno. ddw_at_of s (along_of s.gd) (at_of dndr_of ino) (at_of dndr_of jno)))

  -- what the source returns
  unfoldable pub wdwddw_of : (p0 p1 : Tri3) (lambda myu : Float) → Float × List Float × List Float
  wdwddw_of p0 p1 lambda myu = let s = state_of p0 p1 lambda myu in (w_of s, dw_of s, ddw_of s)
