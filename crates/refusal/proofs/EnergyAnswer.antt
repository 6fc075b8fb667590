-- What a kernel that answers an energy says, in the scope's words: each number exactly where its test holds and that of no earlier one does; +0 after a refusal, else the values.
use mathlib.Core.Path.{◌≡◌, refl}
use mathlib.Core.Bool.{Bool}
use mathlib.Core.List.{List, [], ◌∷◌}
use native.Mathlib.Omega.{arith}
use lib.Ieee.{Float, Format}
use lib.ListN.{replicate}
use borrow.Author.Tests.{eq-eqb, ne_eqb}
use Rattle.float.specs.Lists.{every}
use Rattle.float.specs.Ops.{ops}
use Rattle.refusal.specs.Answers.{EnergyGiven, bad_energy_of, energy_of, taken_of}
use Rattle.refusal.specs.Refusal.{accepted, bad_input, turned, zero_divisor, bad_answer, ◌⇒◌, kernel_rows, kernel_number, Exactly}
use Rattle.refusal.specs.declared.Tests.{Tests}
use Rattle.refusal.proofs.Ladder.{never_given}
use Rattle.refusal.proofs.KernelNumber.{kernel_exactly}

-- 3 is not among what is left
pub taken_never_3 : (f : Format) (right zero : Bool) (numbers : Float × List Float × List Float) → (taken_of f right zero numbers).number ≡ bad_input → ⊥
unfolding energy_of every
taken_never_3 f right zero (w, dw, ddw) =
    never_given bad_input (λ (e : bad_input ≡ accepted). omega arith) (right ⇒ turned ∷ zero ⇒ zero_divisor ∷ bad_energy_of w dw ddw ⇒ bad_answer ∷ []) refl

module _ (f : Format) (t : Tests) (w : Float) (dw ddw : List Float) {r : EnergyGiven} (is : r ≡ energy_of f (kernel_number t) w dw ddw) where
  open ops f use {zero}

  pub numbers_exactly : Exactly r.number (kernel_rows t)
  unfolding energy_of
  numbers_exactly = rw is (kernel_exactly t)

  pub refused_values : (r.number ≡ accepted → ⊥) → (r.w ≡ zero) × (r.dw ≡ replicate 9 zero) × (r.ddw ≡ replicate 81 zero)
  unfolding energy_of
  refused_values = rw is (λ h. let refused = ne_eqb _ accepted h in (rw refused, rw refused, rw refused))

  pub accepted_values : r.number ≡ accepted → (r.w ≡ w) × (r.dw ≡ dw) × (r.ddw ≡ ddw)
  unfolding energy_of
  accepted_values = rw is (λ h. let taken = eq-eqb _ accepted h in (rw taken, rw taken, rw taken))
