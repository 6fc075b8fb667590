-- Tests and answers that several kernels share (01-scope 2.1): the values where nothing is refused, +0 throughout after a refusal.
use Rattle.std.specs.Prelude.{Bool, cond, not, ◌&&◌, ◌||◌, List, [], ◌∷◌, ℕ, eqb, Float, replicate, Result, Ok, Err}
use Rattle.std.specs.Float.{Format}
use Rattle.std.specs.Float.Ieee.Scale.{finite}
use Rattle.float.specs.Lists.{all_finite}
use Rattle.float.specs.Numbers.{is_zero}
use Rattle.float.specs.Ops.{ops}
use Rattle.refusal.specs.Refusal.{accepted, turned, zero_divisor, bad_answer, ◌⇒◌, first_of}
use Rattle.refusal.specs.Numbers.{refusal_number}
use Rattle.refusal.specs.declared.Energy.{Energy}
use Rattle.refusal.specs.declared.Refusal.{Refusal}

-- one of a kernel's three divisors is zero
unfoldable pub zero_divisor_of : (a b c : Float) → Bool
zero_divisor_of a b c = is_zero a || is_zero b || is_zero c

-- a number of a finished energy is not finite
unfoldable pub bad_energy_of : (w : Float) (dw ddw : List Float) → Bool
bad_energy_of w dw ddw = not (finite w && all_finite dw && all_finite ddw)

-- what is given for an energy: the number, the energy, its gradient and its Hessian
pub record EnergyGiven : Type 0 where
  pub number : ℕ
  pub w : Float
  pub dw : List Float
  pub ddw : List Float

module _ (f : Format) where
  open ops f use {zero}

  -- for a routine's answer: the values with 0, or the number of the refusal with +0 throughout
  abbrev pub energy_given : Result Energy Refusal → EnergyGiven
  energy_given (Ok e) = record { number = accepted; w = e.w; dw = e.dw; ddw = e.ddw }
  energy_given (Err refusal) = record { number = refusal_number refusal; w = zero; dw = replicate 9 zero; ddw = replicate 81 zero }

  -- an energy, its gradient and its Hessian, flat in the source's order
  unfoldable pub energy_of : (number : ℕ) (w : Float) (dw ddw : List Float) → EnergyGiven
  energy_of number w dw ddw =
      let keep = eqb number accepted in
      record { number = number; w = cond keep w zero; dw = cond keep dw (replicate 9 zero); ddw = cond keep ddw (replicate 81 zero) }

  -- what is answered once all that is read is taken: 6, 4 and 5 are left, by the turn, the divisors and the numbers
  abbrev pub taken_of : (right zero : Bool) (numbers : Float × List Float × List Float) → EnergyGiven
  taken_of right zero (w, dw, ddw) = energy_of (first_of (right ⇒ turned ∷ zero ⇒ zero_divisor ∷ bad_energy_of w dw ddw ⇒ bad_answer ∷ [])) w dw ddw
