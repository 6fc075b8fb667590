-- A number that no answer has stands in no row.
use mathlib.Core.Path.{◌≡◌, sym}
use mathlib.Core.Bool.{false}
use Prim.Native.Nat.{ℕ}
use lib.Dec.{eqb}
use borrow.Author.Tests.{ne_eqb}
use Rattle.refusal.specs.Refusal.{accepted}
use Rattle.refusal.specs.Numbers.{refusal_number}
use Rattle.refusal.specs.Meanings.{meanings, no_meaning, lookup}
use Rattle.refusal.specs.declared.Refusal.{Refusal}
use Rattle.refusal.specs.declared.Refusal.TheVariants.{BadLength, BadName, BadInput, ZeroDivisor, BadAnswer, Turned, BadStiffness, BadFile}

pub no_row : (number : ℕ) → (number ≡ accepted → ⊥) → ((refusal : Refusal) → refusal_number refusal ≡ number → ⊥) → no_meaning ≡ lookup meanings number
unfolding lookup
no_row number some none =
    let other : (refusal : Refusal) → eqb number (refusal_number refusal) ≡ false = λ refusal. ne_eqb _ _ (λ e. none refusal (sym e)) in
    rw (ne_eqb number accepted some, other BadLength, other BadName, other BadInput, other BadStiffness, other Turned, other ZeroDivisor, other BadAnswer, other BadFile)
