-- The numbers that are printed for a file (01-scope 5.9).
use Rattle.std.specs.Prelude.{◌≡◌, cond, List, [], ◌∷◌, ◌++◌, ℕ, ltb, length, codes, decimal}
use Rattle.refusal.specs.Refusal.{accepted, bad_length, bad_file}
use Rattle.mesh.specs.Mesh.{mesh_of, number_of, values_of}
use Rattle.mesh_count.specs.declared.Printed.{Printed}
use Rattle.mesh_count.specs.declared.Printed.TheVariants.{TooLong, Read, Refused}

-- the longest file that is read
abbrev pub max_bytes : ℕ
max_bytes = 65_536

-- the answer's number and values; of a longer file only 1
unfoldable pub numbers_of : (f : List ℕ) → List ℕ
numbers_of f = cond (ltb max_bytes (length f)) (bad_length ∷ []) (number_of (mesh_of f) ∷ values_of (mesh_of f))

-- the numbers of what is printed
abbrev pub numbers_in : Printed → List ℕ
numbers_in TooLong = bad_length ∷ []
numbers_in (Read n m) = accepted ∷ n ∷ m ∷ []
numbers_in (Refused place) = bad_file ∷ place ∷ []

-- one space before every number but the first
abbrev pub spaced : List ℕ → List ℕ
spaced [] = []
spaced (x ∷ []) = decimal x
spaced (x ∷ y ∷ more) = decimal x ++ codes " " ++ spaced (y ∷ more)

-- and the text that they make
abbrev pub line_of : Printed → List ℕ
line_of printed = spaced (numbers_in printed)

-- THE statement of `numbers`
abbrev pub IsPrinted : (f : List ℕ) (r : Printed) → Type 0
IsPrinted f r = numbers_in r ≡ numbers_of f
