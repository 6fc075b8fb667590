-- No second answer fits a helper's statement: each is an equation with its definition.
use mathlib.Core.Path.{◌≡◌}
use mathlib.Core.Bool.{Bool}
use lib.Ieee.{Float, Format}
use Rattle.float.proofs.Unique.{only}
use Rattle.vec3.specs.declared.V3.{V3}
use Rattle.vec3.specs.declared.Divided.{Divided}
use Rattle.del_geo_core.specs.declared.tri2.SignedArea.{SignedArea}
use Rattle.del_geo_core.specs.Tri2.{Tri2}
use Rattle.del_geo_core.specs.declared.tri2.V2.{V2}
use Rattle.del_geo_core.specs.declared.tri3.NormalArea.{NormalArea}
use Rattle.del_geo_core.specs.declared.curve_linear_coords.DualBasis.{DualBasis}
use Rattle.del_geo_core.specs.declared.mat3_row_major.Matrix3.{Matrix3}
use Rattle.del_geo_core.specs.Tri2 as tri2
use Rattle.del_geo_core.specs.Tri3 as tri3
use Rattle.del_geo_core.specs.Edge.{length_of}
use Rattle.del_geo_core.specs.CurveLinearCoords.{contravariant_of, inverse_of}
use Rattle.del_geo_core.specs.Mat3RowMajor.{mult_vec_of}

module _ (f : Format) where
  pub plane_area : (p0 p1 p2 : V2) {r q : SignedArea} → r ≡ tri2.signed_area_of f p0 p1 p2 → q ≡ tri2.signed_area_of f p0 p1 p2 → r ≡ q
  plane_area p0 p1 p2 = only

  pub turns_right_lem : (p : Tri2) {r q : Bool} → r ≡ tri2.turns_right f p → q ≡ tri2.turns_right f p → r ≡ q
  turns_right_lem p = only

  pub normal : (p0 p1 p2 : V3) {r q : V3} → r ≡ tri3.normal_of f p0 p1 p2 → q ≡ tri3.normal_of f p0 p1 p2 → r ≡ q
  normal p0 p1 p2 = only

  pub space_area : (p0 p1 p2 : V3) {r q : Float} → r ≡ tri3.area_of f p0 p1 p2 → q ≡ tri3.area_of f p0 p1 p2 → r ≡ q
  space_area p0 p1 p2 = only

  pub unit_normal_area : (p0 p1 p2 : V3) {r q : NormalArea} → r ≡ tri3.unit_normal_area_of f p0 p1 p2 → q ≡ tri3.unit_normal_area_of f p0 p1 p2 → r ≡ q
  unit_normal_area p0 p1 p2 = only

  pub length : (p0 p1 : V3) {r q : Float} → r ≡ length_of f p0 p1 → q ≡ length_of f p0 p1 → r ≡ q
  length p0 p1 = only

  pub contravariant : (g0 g1 g2 : V3) {r q : Divided} → r ≡ contravariant_of f g0 g1 g2 → q ≡ contravariant_of f g0 g1 g2 → r ≡ q
  contravariant g0 g1 g2 = only

  pub inverse : (g0 g1 g2 : V3) {r q : DualBasis} → r ≡ inverse_of f g0 g1 g2 → q ≡ inverse_of f g0 g1 g2 → r ≡ q
  inverse g0 g1 g2 = only

  pub mult_vec : (m : Matrix3) (v : V3) {r q : V3} → r ≡ mult_vec_of f m v → q ≡ mult_vec_of f m v → r ≡ q
  mult_vec m v = only
