-- No second answer fits: the statement says what the answer is.
use mathlib.Core.Path.{◌≡◌}
use mathlib.Core.List.{List}
use Prim.Native.Nat.{ℕ}
use lib.Ieee.{Float}
use Rattle.float.proofs.Unique.{only}
use Rattle.lines.specs.Filled.{IsFilled}

pub fill : (template : List ℕ) (numbers : List Float) (before : List ℕ) {r q : ℕ} {after other : List ℕ} → IsFilled template numbers before r after → IsFilled template numbers before q other
    → (r ≡ q) × (after ≡ other)
fill template numbers before a b = (only a.place b.place, only a.made b.made)
