-- What each refusal number means, in words (01-scope 2.1).
use Rattle.std.specs.Prelude.{cond, List, [], ◌∷◌, ◌++◌, ℕ, eqb, decimal}
use Rattle.float.specs.Text.{ascii}
use Rattle.refusal.specs.Refusal.{accepted, bad_length, bad_name, bad_input, bad_stiffness, turned, zero_divisor, bad_answer, bad_file}
use Rattle.refusal.specs.declared.NoRefusal.{NoRefusal}

-- each number that is given, with its meaning
abbrev pub meanings : List (ℕ × List ℕ)
meanings =
    (accepted, ascii "accepted") ∷
    (bad_length, ascii "a length or a limit is wrong") ∷
    (bad_name, ascii "a triangle names a vertex that does not exist") ∷
    (bad_input, ascii "a number that is read is a NaN or an infinity") ∷
    (bad_stiffness, ascii "a stiffness is none that a sheet can have") ∷
    (turned, ascii "a triangle turns right: its corners run clockwise") ∷
    (zero_divisor, ascii "a divisor is zero") ∷
    (bad_answer, ascii "the finished answer has a NaN or an infinity in it") ∷
    (bad_file, ascii "the mesh file is not as it has to be") ∷ []

-- and of any other
abbrev pub no_meaning : List ℕ
no_meaning = ascii "no number that this version gives"

unfoldable pub lookup : (rows : List (ℕ × List ℕ)) (number : ℕ) → List ℕ
lookup [] number = no_meaning
lookup (row ∷ rows) number = cond (eqb number row.0) row.1 (lookup rows number)

-- what is said of a number that no refusal has
abbrev pub no_refusal_of : NoRefusal → List ℕ
no_refusal_of none = ascii "no refusal has the number " ++ decimal none.number
