-- Young's modulus and Poisson's ratio against the Lamé pair that is computed of them: a finite pair comes of finite numbers, so where 7 is not given both are refused alike.
use mathlib.Core.Path.{◌≡◌, refl, ap}
use mathlib.Core.Bool.{Bool, true, false}
use mathlib.Core.List.{List}
use Prim.Native.Nat.{ℕ}
use denote.Floats.{passes}
use lib.Ieee.{Float, Format}
use lib.Ieee.Bits.{is_true}
use lib.Ieee.Scale.{finite}
use Rattle.float.specs.Ops.{ops}
use Rattle.float.proofs.Finite.{mul_finite, dividend_finite}
use Rattle.float.proofs.Scan.{both}
use Rattle.refusal.specs.Refusal.{bad_stiffness, first_of, kernel_number}
use Rattle.refusal.specs.Answers.{EnergyGiven, bad_energy_of, energy_of, taken_of}
use Rattle.material.specs.Material.{is_finite_of, lame_of, computed, is_bad_of, tested_of}
use Rattle.material.specs.declared.LamePair.{LamePair}
use Rattle.material.specs.declared.Stiffness.{Stiffness}
use Rattle.material.specs.declared.Stiffness.TheVariants.{Young}

-- a kernel's number by its tests
abbrev number_by : (input stiffness right zero answer : Bool) → ℕ
number_by input stiffness right zero answer =
    kernel_number (record { bad_input = input; bad_stiffness = stiffness; turned = right; zero_divisor = zero; bad_answer = answer })

-- where 7 is not given, its row is as good as none
not_7 : (input stiffness right zero answer : Bool) → (number_by input stiffness right zero answer ≡ bad_stiffness → ⊥)
    → number_by input stiffness right zero answer ≡ number_by input false right zero answer
unfolding kernel_number first_of
not_7 true stiffness right zero answer other = refl
not_7 false true right zero answer other = absurd (other refl)
not_7 false false right zero answer other = refl

module _ (f : Format) (e v : Float) where
  open ops f use {◌⊕◌, ◌⊖◌, ◌⊗◌, one, two}

  infixl 75 ◌⊕◌ ◌⊖◌
  infixl 80 ◌⊗◌
  abbrev pair : LamePair
  pair = lame_of f (Young e v)

  computed_finite : is_finite_of (computed f e v) ≡ true → is_finite_of (Young e v) ≡ true
  unfolding is_finite_of lame_of
  computed_finite h =
      let lambda = passes (finite pair.lambda) (both (finite pair.lambda) (finite pair.myu) h).0 in
      let t = mul_finite f e v (dividend_finite f (e ⊗ v) ((one ⊕ v) ⊗ (one ⊖ two ⊗ v)) lambda) in
      rw (is_true (finite e) t.0, is_true (finite v) t.1)

  same_number : (others right zero answer : Bool) → is_finite_of (computed f e v) ≡ true → (kernel_number (tested_of f (Young e v) others right zero answer) ≡ bad_stiffness → ⊥)
      → kernel_number (tested_of f (Young e v) others right zero answer) ≡ kernel_number (tested_of f (computed f e v) others right zero answer)
  unfolding tested_of is_bad_of
  same_number others right zero answer h other = rw (computed_finite h, h) (not_7 _ _ right zero answer (rw (computed_finite h) at other))

  -- of a kernel with a stiffness, whatever its numbers are on lambda and myu
  module _ (others right zero : Bool) (numbers : LamePair → Float × List Float × List Float) where
    abbrev answer : Stiffness → EnergyGiven
    answer stiffness =
        let (w, dw, ddw) = numbers (lame_of f stiffness) in
        energy_of f (kernel_number (tested_of f stiffness others right zero (bad_energy_of w dw ddw))) w dw ddw

    -- THE law that joins the two: what is answered for E and v is what is answered for the pair
    pub young_lame : is_finite_of (computed f e v) ≡ true → ((answer (Young e v)).number ≡ bad_stiffness → ⊥) → answer (Young e v) ≡ answer (computed f e v)
    unfolding lame_of energy_of
    young_lame h other = let (w, dw, ddw) = numbers pair in ap (λ number. energy_of f number w dw ddw) (same_number others right zero (bad_energy_of w dw ddw) h other)

    -- once E and v are taken the pair is not looked at, finite or not
    pub young_taken : others ≡ true → is_finite_of (Young e v) ≡ true → is_bad_of f (Young e v) ≡ false
        → answer (Young e v) ≡ taken_of f right zero (numbers pair)
    unfolding tested_of kernel_number first_of
    young_taken o h b = rw (o, h, b)
