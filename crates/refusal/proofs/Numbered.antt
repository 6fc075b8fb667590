-- No two answers have one number: refusals have different numbers, all above 0, and an answer without values has nothing else.
use mathlib.Core.Path.{◌≡◌, refl, ap, sym, ◌∙◌}
use mathlib.Core.Bool.{false}
use mathlib.Core.List.{[], ◌∷◌}
use Prim.Native.Nat.{ℕ, ◌<◌}
use native.Mathlib.Omega.{arith}
use lib.Dec.{eqb}
use lib.ListN.{get_or}
use borrow.Author.Tests.{ne_eqb}
use Rattle.std.specs.Prelude.{Result, Ok, Err}
use Rattle.refusal.specs.Refusal.{accepted}
use Rattle.refusal.specs.Numbers.{refusal_number, answer_number}
use Rattle.refusal.specs.declared.Refusal.{Refusal}
use Rattle.refusal.specs.declared.Refusal.TheVariants.{BadLength, BadName, BadInput, ZeroDivisor, BadAnswer, Turned, BadStiffness, BadFile}

pub refuses : (refusal : Refusal) → 0 < refusal_number refusal
refuses BadLength = omega arith
refuses BadName = omega arith
refuses BadInput = omega arith
refuses ZeroDivisor = omega arith
refuses BadAnswer = omega arith
refuses Turned = omega arith
refuses BadStiffness = omega arith
refuses BadFile = omega arith

pub is_some : (refusal : Refusal) → eqb (refusal_number refusal) accepted ≡ false
is_some refusal = ne_eqb (refusal_number refusal) accepted (λ (z : refusal_number refusal ≡ accepted). omega (arith, refuses refusal))

-- the refusal of a number, in the numbers' order
abbrev named : ℕ → Refusal
named n = get_or (BadFile ∷ BadLength ∷ BadName ∷ BadInput ∷ ZeroDivisor ∷ BadAnswer ∷ Turned ∷ BadStiffness ∷ []) n BadFile

named_back : (refusal : Refusal) → named (refusal_number refusal) ≡ refusal
named_back BadLength = refl
named_back BadName = refl
named_back BadInput = refl
named_back ZeroDivisor = refl
named_back BadAnswer = refl
named_back Turned = refl
named_back BadStiffness = refl
named_back BadFile = refl

pub refusal_once : (r q : Refusal) → refusal_number r ≡ refusal_number q → r ≡ q
refusal_once r q e = sym (named_back r) ∙ ap named e ∙ named_back q

pub answer_once : (r q : Result (Unit {0}) Refusal) → answer_number r ≡ answer_number q → r ≡ q
answer_once (Ok a) (Ok b) e = refl
answer_once (Ok a) (Err q) e = absurd (omega (arith, refuses q))
answer_once (Err r) (Ok b) e = absurd (omega (arith, refuses r))
answer_once (Err r) (Err q) e = ap Err (refusal_once r q e)
