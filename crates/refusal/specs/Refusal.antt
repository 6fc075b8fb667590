-- The refusal numbers by name, and the ladder that picks one (01-scope 2.1).
use Rattle.std.specs.Prelude.{◌≡◌, Bool, true, false, cond, List, [], ◌∷◌, ◌↔◌, ◌⊎◌, ℕ}
use Rattle.refusal.specs.declared.Tests.{Tests}

abbrev pub accepted : ℕ
accepted = 0

-- a length or a limit is wrong
abbrev pub bad_length : ℕ
bad_length = 1

-- a triangle names a vertex that does not exist
abbrev pub bad_name : ℕ
bad_name = 2

-- a number that the routine reads is a NaN or an infinity
abbrev pub bad_input : ℕ
bad_input = 3

-- a listed divisor is zero, of either sign
abbrev pub zero_divisor : ℕ
zero_divisor = 4

-- the finished answer has a NaN or an infinity in it
abbrev pub bad_answer : ℕ
bad_answer = 5

-- a triangle turns right
abbrev pub turned : ℕ
turned = 6

-- a stiffness is none that a sheet can have
abbrev pub bad_stiffness : ℕ
bad_stiffness = 7

-- a mesh file is not as published
abbrev pub bad_file : ℕ
bad_file = 8

-- a row of the ladder: the number to give where the test holds
abbrev pub Row : Type 0
Row = Bool × ℕ

infix 68 ◌⇒◌
abbrev pub ◌⇒◌ : Bool → ℕ → Row
test ⇒ number = (test, number)

-- the number of the first row whose test holds, and 0 where none does
unfoldable pub first_of : List Row → ℕ
first_of [] = accepted
first_of (row ∷ rows) = cond row.0 row.1 (first_of rows)

-- a row of number n is the first whose test holds: n may stand on several rows
abbrev pub Cause : (n : ℕ) → List Row → Type 0
Cause n [] = ⊥
Cause n ((test, k) ∷ rows) = ((test ≡ true) × (k ≡ n)) ⊎ ((test ≡ false) × Cause n rows)

-- no test holds
abbrev pub Clear : List Row → Type 0
Clear [] = Unit {0}
Clear ((test, k) ∷ rows) = (test ≡ false) × Clear rows

-- each number is given exactly where its cause stands in the rows, and none exactly where they are clear
pub record Exactly (number : ℕ) (rows : List Row) : Type 0 where
  pub refused_exactly : (n : ℕ) → (n ≡ accepted → ⊥) → number ≡ n ↔ Cause n rows
  pub accepted_exactly : number ≡ accepted ↔ Clear rows

-- the ladder of every kernel; a test that a kernel does not make is false
abbrev pub kernel_rows : Tests → List Row
kernel_rows t =
    t.bad_input ⇒ bad_input
    ∷ t.bad_stiffness ⇒ bad_stiffness
    ∷ t.turned ⇒ turned
    ∷ t.zero_divisor ⇒ zero_divisor
    ∷ t.bad_answer ⇒ bad_answer
    ∷ []

unfoldable pub kernel_number : Tests → ℕ
kernel_number t = first_of (kernel_rows t)
