-- A triangle's edges from corner 0, the strain along them, and the dots of the plate's contravariant vectors (stvk_tri3.rs, mitc_tri3.rs: gd, glstrain, gu_gu). An index 0, 1, 2 of the sources is x, y, z here.
use Rattle.std.specs.Float.{Format}
use Rattle.float.specs.Ops.{ops}
use Rattle.vec3.specs.Vec3.{dot_of, sub_of}
use Rattle.del_geo_core.specs.declared.curve_linear_coords.DualBasis.{DualBasis}
use Rattle.del_geo_core.specs.Tri2.{Tri2}
use Rattle.del_geo_core.specs.Tri3.{Tri3}
use Rattle.vec3.specs.declared.V3.{V3}
use Rattle.edges.specs.declared.Gd.{Gd}
use Rattle.edges.specs.declared.GuGu.{GuGu}

module _ (f : Format) where
  open ops f use {◌⊖◌, ◌⊗◌, zero, half}

  infixl 75 ◌⊖◌
  infixl 80 ◌⊗◌
  -- of a plane triangle: its third components are +0
  unfoldable pub plane_of : Tri2 → Gd
  plane_of p = record {
    x = record { x = p.p1.x ⊖ p.p0.x; y = p.p1.y ⊖ p.p0.y; z = zero };
    y = record { x = p.p2.x ⊖ p.p0.x; y = p.p2.y ⊖ p.p0.y; z = zero };
  }

  -- of a triangle in space
  unfoldable pub space_of : Tri3 → Gd
  space_of p = record { x = sub_of f p.p1 p.p0; y = sub_of f p.p2 p.p0 }

  -- from the rest edges and the deformed ones; the third is the engineer's, without a half
  unfoldable pub glstrain_of : (gd0 gd : Gd) → V3
  glstrain_of gd0 gd = record {
    x = half ⊗ (dot_of f gd.x gd.x ⊖ dot_of f gd0.x gd0.x);
    y = half ⊗ (dot_of f gd.y gd.y ⊖ dot_of f gd0.y gd0.y);
    z = dot_of f gd.x gd.y ⊖ dot_of f gd0.x gd0.y;
  }

  unfoldable pub gu_gu_of : DualBasis → GuGu
  gu_gu_of gu = record {
    rr = dot_of f gu.x.v gu.x.v;
    ss = dot_of f gu.y.v gu.y.v;
    sr = dot_of f gu.x.v gu.y.v;
    tt = dot_of f gu.z.v gu.z.v;
  }
