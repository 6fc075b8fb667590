-- No second answer fits a statement of this crate: each is an equation with a definition.
use mathlib.Core.Path.{◌≡◌}
use mathlib.Core.List.{List}
use lib.Ieee.{Float, Format}
use Rattle.float.proofs.Unique.{only}
use Rattle.bending.specs.Bending.{divisors_of, k_of, w_of, dwdp_of}
use Rattle.bending.specs.declared.Fold.{Fold}
use Rattle.bending.specs.declared.Divisors.{Divisors}

module _ (f : Format) where
  pub divisors_of_lem : (p : Fold) {r q : Divisors} → r ≡ divisors_of f p → q ≡ divisors_of f p → r ≡ q
  divisors_of_lem p = only

  pub k : (p : Fold) (d : Divisors) {r q : List Float} → r ≡ k_of f p d → q ≡ k_of f p d → r ≡ q
  k p d = only

  pub w : (k : List Float) (p : Fold) {r q : List Float} → r ≡ w_of f k p → q ≡ w_of f k p → r ≡ q
  w k p = only

  pub dwdp : (k : List Float) {r q : List Float} → r ≡ dwdp_of f k → q ≡ dwdp_of f k → r ≡ q
  dwdp k = only
