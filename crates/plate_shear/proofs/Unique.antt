-- No second answer fits a statement of this crate: each is an equation with a definition.
use mathlib.Core.Path.{◌≡◌}
use mathlib.Core.List.{List}
use lib.Ieee.{Float, Format}
use Rattle.float.proofs.Unique.{only}
use Rattle.del_geo_core.specs.declared.mat3_row_major.Matrix3.{Matrix3}
use Rattle.del_geo_core.specs.declared.tri2.V2.{V2}
use Rattle.del_geo_core.specs.Tri3.{Tri3}
use Rattle.edges.specs.declared.GuGu.{GuGu}
use Rattle.plate_shear.specs.Shear.{shear_of, dstrain_of, w_of, dw_of, ddw_of}
use Rattle.plate_shear.specs.declared.Shear.{Shear}

module _ (f : Format) where
  pub shear_of_lem : (gd : Matrix3) (gu_gu : GuGu) (u : Tri3) (area thk myu : Float) {x y : Shear}
      → x ≡ shear_of f gd gu_gu u area thk myu → y ≡ shear_of f gd gu_gu u area thk myu → x ≡ y
  shear_of_lem gd gu_gu u area thk myu = only

  pub dstrain : (gd : Matrix3) (thk r s : Float) {x y : List (List Float)} → x ≡ dstrain_of f gd thk r s → y ≡ dstrain_of f gd thk r s → x ≡ y
  dstrain gd thk r s = only

  pub w : (shear : Shear) (r s : Float) {x y : Float} → x ≡ w_of f shear r s → y ≡ w_of f shear r s → x ≡ y
  w shear r s = only

  pub dw : (shear : Shear) (r s : Float) (d : V2) {x y : Float} → x ≡ dw_of f shear r s d → y ≡ dw_of f shear r s d → x ≡ y
  dw shear r s d = only

  pub ddw : (shear : Shear) (di dj : V2) {x y : Float} → x ≡ ddw_of f shear di dj → y ≡ ddw_of f shear di dj → x ≡ y
  ddw shear di dj = only
