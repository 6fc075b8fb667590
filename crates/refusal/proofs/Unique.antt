-- No second answer fits a statement of this crate: each is an equation with a definition.
use mathlib.Core.Path.{◌≡◌, ap, sym, ◌∙◌}
use mathlib.Core.Bool.{Bool, cond}
use mathlib.Core.List.{List}
use Prim.Native.Nat.{ℕ}
use lib.Ieee.{Float, Format}
use Rattle.float.proofs.Unique.{only}
use Rattle.std.specs.Prelude.{Result, Ok, Err}
use Rattle.refusal.specs.Refusal.{kernel_number}
use Rattle.refusal.specs.Numbers.{refusal_number, answer_number, IsNumbered}
use Rattle.refusal.specs.Meanings.{meanings, lookup}
use Rattle.refusal.specs.declared.NoRefusal.{NoRefusal}
use Rattle.refusal.specs.declared.Refusal.{Refusal}
use Rattle.refusal.proofs.Numbered.{refusal_once, answer_once}
use Rattle.refusal.specs.Answers.{EnergyGiven, zero_divisor_of, bad_energy_of, energy_of}
use Rattle.refusal.specs.Panel.{bad_length_of, names_below}
use Rattle.refusal.specs.declared.Tests.{Tests}

pub first : (test : Bool) (number later : ℕ) {r q : ℕ} → r ≡ cond test number later → q ≡ cond test number later → r ≡ q
first test number later = only

pub number_of_refusal : (refusal : Refusal) {r q : ℕ} → r ≡ refusal_number refusal → q ≡ refusal_number refusal → r ≡ q
number_of_refusal refusal = only

pub meaning : (refusal : Refusal) {r q : List ℕ} → r ≡ lookup meanings (refusal_number refusal) → q ≡ lookup meanings (refusal_number refusal) → r ≡ q
meaning refusal = only

pub numbered : (number : ℕ) (r q : Result Refusal NoRefusal) → IsNumbered number r → IsNumbered number q → r ≡ q
numbered number (Ok a) (Ok b) e g = ap Ok (refusal_once a b (e ∙ sym g))
numbered number (Ok a) (Err b) e g = absurd (g.1 a e)
numbered number (Err a) (Ok b) e g = absurd (e.1 b g)
numbered number (Err a) (Err b) e g = ap (λ n. Err (record { number = n })) (e.0 ∙ sym g.0)

pub number_of_answer : {A : Type 0} (answer : Result A Refusal) {r q : ℕ} → r ≡ answer_number answer → q ≡ answer_number answer → r ≡ q
number_of_answer answer = only

pub refuse_if : (test : Bool) (refusal : Refusal) {r q : Result (Unit {0}) Refusal} → answer_number r ≡ cond test (refusal_number refusal) 0 → answer_number q ≡ cond test (refusal_number refusal) 0 → r ≡ q
refuse_if test refusal a b = answer_once _ _ (only a b)

pub kernel_result : (t : Tests) {r q : Result (Unit {0}) Refusal} → answer_number r ≡ kernel_number t → answer_number q ≡ kernel_number t → r ≡ q
kernel_result t a b = answer_once _ _ (only a b)

pub kernel : (t : Tests) {r q : ℕ} → r ≡ kernel_number t → q ≡ kernel_number t → r ≡ q
kernel t = only

pub zero_divisor_lem : (a b c : Float) {r q : Bool} → r ≡ zero_divisor_of a b c → q ≡ zero_divisor_of a b c → r ≡ q
zero_divisor_lem a b c = only

pub bad_energy : (w : Float) (dw ddw : List Float) {r q : Bool} → r ≡ bad_energy_of w dw ddw → q ≡ bad_energy_of w dw ddw → r ≡ q
bad_energy w dw ddw = only

pub answer_energy : (f : Format) (number : ℕ) (w : Float) (dw ddw : List Float) {r q : EnergyGiven} → r ≡ energy_of f number w dw ddw
    → q ≡ energy_of f number w dw ddw → r ≡ q
answer_energy f number w dw ddw = only

pub bad_length_lem : (vertices names places : ℕ) {r q : Bool} → r ≡ bad_length_of vertices names places → q ≡ bad_length_of vertices names places → r ≡ q
bad_length_lem vertices names places = only

pub names_below_lem : (count : ℕ) (names : List ℕ) {r q : Bool} → r ≡ names_below count names → q ≡ names_below count names → r ≡ q
names_below_lem count names = only
