-- The items that a file is made of. One is looked for at the place `at`, in what is left of the file from there, s: its value and the place after it, or the place that is refused.
use Rattle.std.specs.Prelude.{Bool, cond, Result, Ok, Err, List, [], ◌∷◌, ℕ, zero, suc, ◌+◌, ◌-◌, ◌*◌, ◌%◌, leb, ltb, eqb, length, take, drop}
use Rattle.float.specs.Numbers.{big_endian}
use Rattle.mesh.specs.declared.Rule.{Rule}
use Rattle.mesh.specs.declared.Rule.TheVariants.{Cell, Five}

-- what an item answers: its value and the place after it, or the place that is refused
abbrev pub Step : Type 0
Step = Result (ℕ × ℕ) ℕ

-- the bytes w, of a line that begins at `start`: a file that ends before them is refused at its end, a byte that differs at `start`
unfoldable pub same : (value start : ℕ) (w : List ℕ) (at : ℕ) (s : List ℕ) → Step
same value start [] at s = Ok (value, at)
same value start (b ∷ w) at [] = Err at
same value start (b ∷ w) at (c ∷ s) = cond (eqb c b) (same value start w (at + 1) s) (Err start)

-- a whole line, or the newline after a block
abbrev pub line : (value : ℕ) (w : List ℕ) (at : ℕ) (s : List ℕ) → Step
line value w at s = same value at w at s

-- a newline among the next k bytes
unfoldable pub title_in : (start k at : ℕ) (s : List ℕ) → Step
title_in start zero at s = Err start
title_in start (suc k) at [] = Err at
title_in start (suc k) at (c ∷ s) = cond (eqb c 10) (Ok (0, at + 1)) (title_in start k (at + 1) s)

abbrev pub title : (at : ℕ) (s : List ℕ) → Step
title at s = title_in at 256 at s

-- what the digits at the front of s say after n, as far as n stays below 1,000,000
unfoldable pub digits : (n : ℕ) (s : List ℕ) → ℕ
digits n [] = n
digits n (c ∷ s) = cond (ltb n 100000) (cond (leb 48 c) (cond (ltb c 58) (digits (n * 10 + (c - 48)) s) n) n) n

-- a line with a count: where the digits after its first `word` bytes say n, it has to be the line of n, and n at most the limit
unfoldable pub counted_as : (text : ℕ → List ℕ) (limit at : ℕ) (s : List ℕ) (n : ℕ) → Step
counted_as text limit at s n = cond (leb n limit) (line n (text n) at s) (Err at)

unfoldable pub counted : (text : ℕ → List ℕ) (word limit at : ℕ) (s : List ℕ) → Step
counted text word limit at s = counted_as text limit at s (digits 0 (drop word s))

-- k bytes, whatever they are
unfoldable pub block : (k at : ℕ) (s : List ℕ) → Step
block k at s = cond (leb k (length s)) (Ok (0, at + k)) (Err (at + length s))

-- what number i of a block has to be: of the cells, 3 and then three names below n; of the types, 5
unfoldable pub right : Rule → (i x : ℕ) → Bool
right (Cell n) i x = cond (eqb (i % 4) 0) (eqb x 3) (ltb x n)
right Five i x = eqb x 5

-- k numbers of w bytes each, the highest byte first, from number i on; one that the file's end cuts is not looked at
unfoldable pub numbers : Rule → (w k i at : ℕ) (s : List ℕ) → Step
numbers rule w zero i at s = Ok (0, at)
numbers rule w (suc k) i at s =
    cond (leb w (length s)) (cond (right rule i (big_endian (take w s))) (numbers rule w k (i + 1) (at + w) (drop w s)) (Err at)) (Err (at + length s))

-- the end of the file
unfoldable pub end : (at : ℕ) (s : List ℕ) → Step
end at [] = Ok (0, at)
end at (c ∷ s) = Err at

-- what comes after an item, given its value and the place after it
unfoldable pub after : {A : Type 0} → Step → (ℕ → ℕ → Result A ℕ) → Result A ℕ
after (Ok (value, at)) more = more value at
after (Err place) more = Err place
