-- What each number leaves in a buffer: the definition's tests, one by one.
use mathlib.Core.Path.{◌≡◌}
use mathlib.Core.Bool.{Bool, true, false}
use mathlib.Core.List.{List}
use Prim.Native.Nat.{ℕ}
use lib.Ieee.{Float, Format}
use borrow.Author.Tests.{ne_eqb}
use Rattle.float.specs.Lists.{cleared}
use Rattle.refusal.specs.Refusal.{accepted}
use Rattle.refusal.specs.Left.{left_of}

module _ (f : Format) (keeps : ℕ → Bool) (n : ℕ) (made before : List Float) {after : List Float} (is : after ≡ left_of f keeps n made before) where
  pub left_made : n ≡ accepted → after ≡ made
  unfolding left_of
  left_made e = rw e at is

  pub left_kept : (n ≡ accepted → ⊥) → keeps n ≡ true → after ≡ before
  unfolding left_of
  left_kept z k = rw (ne_eqb n accepted z, k) at is

  pub left_cleared : (n ≡ accepted → ⊥) → keeps n ≡ false → after ≡ cleared f before
  unfolding left_of
  left_cleared z k = rw (ne_eqb n accepted z, k) at is
