-- A zero follows every meaning in the 64 bytes, so that they are a text of C: each has at most 63 bytes, by one computed test over the table.
use mathlib.Core.Path.{◌≡◌, refl}
use mathlib.Core.Bool.{Bool, true, false, cond}
use mathlib.Core.List.{List, [], ◌∷◌}
use Prim.Native.Nat.{ℕ, ◌≤◌, ◌<◌}
use native.Mathlib.Omega.{arith}
use lib.Dec.{eqb, ltb, lit<}
use lib.ListN.{length}
use borrow.Author.Tests.{ltb-true}
use Rattle.float.specs.Lists.{every}
use Rattle.float.proofs.Fill.{table_length}
use Rattle.float.proofs.Scan.{both}
use Rattle.refusal.specs.Meanings.{meanings, lookup}
use Rattle.words.specs.Words.{IsMeaning}

either : (test : Bool) (s t : List ℕ) → length s < 64 → length t < 64 → length (cond test s t) < 64
either true s t h k = h
either false s t h k = k

found : (rows : List (ℕ × List ℕ)) (number : ℕ) → every (λ (row : ℕ × List ℕ). ltb (length row.1) 64) rows ≡ true → length (lookup rows number) < 64
unfolding lookup every
found [] number e = lit< tt
found (row ∷ rows) number e =
    let h = both (ltb (length row.1) 64) _ e in
    either (eqb number row.0) row.1 (lookup rows number) (ltb-true _ 64 h.0) (found rows number h.1)

pub shorter : (number : ℕ) → length (lookup meanings number) < 64
unfolding every
shorter number = found meanings number refl

-- the words are within what was lent
pub within : (number : ℕ) {r : ℕ} {words : List ℕ} → IsMeaning number r words → r ≤ length words
within number is = rw (is.0, is.1, table_length _ 64) (omega (arith, shorter number))
