-- The number of a refusal, and that of an answer (01-scope 2.1).
use Rattle.std.specs.Prelude.{◌≡◌, ℕ, Result, Ok, Err, MatchResult}
use Rattle.refusal.specs.Refusal.{accepted, bad_length, bad_name, bad_input, zero_divisor, bad_answer, turned, bad_stiffness, bad_file}
use Rattle.refusal.specs.declared.NoRefusal.{NoRefusal}
use Rattle.refusal.specs.declared.Refusal.{Refusal}
use Rattle.refusal.specs.declared.Refusal.TheVariants.{BadLength, BadName, BadInput, ZeroDivisor, BadAnswer, Turned, BadStiffness, BadFile}

abbrev pub refusal_number : Refusal → ℕ
refusal_number BadLength = bad_length
refusal_number BadName = bad_name
refusal_number BadInput = bad_input
refusal_number ZeroDivisor = zero_divisor
refusal_number BadAnswer = bad_answer
refusal_number Turned = turned
refusal_number BadStiffness = bad_stiffness
refusal_number BadFile = bad_file

-- 0 where nothing is refused
abbrev pub answer_number : {A : Type 0} → Result A Refusal → ℕ
answer_number (Ok a) = accepted
answer_number (Err refusal) = refusal_number refusal

-- THE statement of `Refusal::try_from`: the refusal that has the number; the number itself where none has it
abbrev pub IsNumbered : ℕ → Result Refusal NoRefusal → Type 0
IsNumbered number r = MatchResult r (λ refusal. refusal_number refusal ≡ number) (λ none. (none.number ≡ number) × ((refusal : Refusal) → refusal_number refusal ≡ number → ⊥))
