-- No second answer fits a statement of this crate: each is an equation with a definition.
use mathlib.Core.Path.{◌≡◌}
use mathlib.Core.List.{List}
use Prim.Native.Nat.{ℕ}
use lib.Ieee.{Float, Format}
use Rattle.float.proofs.Unique.{only}
use Rattle.float.specs.Lists.{◌!◌}
use Rattle.del_geo_core.specs.declared.mat3_row_major.Matrix3.{Matrix3}
use Rattle.del_geo_core.specs.Tri3.{Tri3}
use Rattle.vec3.specs.declared.V3.{V3}
use Rattle.edges.specs.declared.GuGu.{GuGu}
use Rattle.plate_bending.specs.Bending.{bending_of, t0s, dstrain_of, w_of, dw_of, ddw_of}
use Rattle.plate_bending.specs.declared.Bending.{Bending}

module _ (f : Format) where
  pub bending_of_lem : (gd : Matrix3) (gu_gu : GuGu) (u : Tri3) (area thk lambda myu : Float) {r q : Bending}
      → r ≡ bending_of f gd gu_gu u area thk lambda myu → q ≡ bending_of f gd gu_gu u area thk lambda myu → r ≡ q
  bending_of_lem gd gu_gu u area thk lambda myu = only

  -- `t0s`
  pub t0 : {r q : List Float} → r ≡ t0s f → q ≡ t0s f → r ≡ q
  t0 = only

  -- each of the two
  pub t0_at : (i : ℕ) {r q : Float} → r ≡ t0s f ! i → q ≡ t0s f ! i → r ≡ q
  t0_at i = only

  pub dstrain : (gd : Matrix3) (thk t0 : Float) {r q : List (List Float)} → r ≡ dstrain_of f gd thk t0 → q ≡ dstrain_of f gd thk t0 → r ≡ q
  dstrain gd thk t0 = only

  pub w : (bending : Bending) (t0 : Float) {r q : Float} → r ≡ w_of f bending t0 → q ≡ w_of f bending t0 → r ≡ q
  w bending t0 = only

  pub dw : (bending : Bending) (t0 : Float) (d : V3) {r q : Float} → r ≡ dw_of f bending t0 d → q ≡ dw_of f bending t0 d → r ≡ q
  dw bending t0 d = only

  pub ddw : (bending : Bending) (di dj : V3) {r q : Float} → r ≡ ddw_of f bending di dj → q ≡ ddw_of f bending di dj → r ≡ q
  ddw bending di dj = only
