-- A number's text fits in 32 bytes; and the right end of such a field, from the text's first byte or from further left, is the text with blanks in front.
use mathlib.Core.Path.{◌≡◌, ◌∙◌}
use mathlib.Core.List.{List}
use Prim.Native.Nat.{ℕ, zero, suc, ◌-◌, ◌≤◌, min}
use native.Mathlib.Nat.{sub-zero, zero-sub, suc-sub-suc}
use native.Mathlib.Omega.{arith}
use lib.Ieee.{Float}
use lib.ListN.{length, take, drop, replicate, length-append, length-replicate}
use lib.Seq.{take_all, drop-append-le}
use borrow.Author.Tests.{le-ltb}
use Rattle.decimal.specs.Units.{IsUnits}
use Rattle.decimal.specs.Text.{text_of, field_of}
use Rattle.decimal.specs.declared.units.Amount.{Amount}
use Rattle.decimal.proofs.Amounts.{few}
use Rattle.decimal.proofs.Texts.{short}
use Rattle.lines.specs.Filled.{padded, shown_of}

drop_blanks : (n m b : ℕ) → drop n (replicate m b) ≡ replicate (m - n) b
drop_blanks zero m b = rw (sub-zero m)
drop_blanks (suc n) zero b = rw (zero-sub (suc n))
drop_blanks (suc n) (suc m) b = rw (suc-sub-suc m n) (drop_blanks n m b)

right_end : (w : ℕ) (t : List ℕ) → length t ≤ 22 → drop (min (32 - length t) (32 - min w 32)) (field_of 32 t) ≡ padded (min w 32) t
unfolding field_of
right_end w t h =
    let from = min (32 - length t) (32 - min w 32) in
    let left : 32 - length t - from ≡ min w 32 - length t = omega arith in
    rw (le-ltb 32 (length t) (omega arith))
    (drop-append-le from (replicate (32 - length t) 32) t (omega (arith, length-replicate {A = ℕ} (32 - length t) 32)) ∙ rw (drop_blanks from (32 - length t) 32, left))

-- what `number` writes: the field from the place on that it works out
pub shown : (p k w : ℕ) (x : Float) {amount : Amount} {field : List ℕ} {from a b : ℕ} → IsUnits (min p 9) x amount → field ≡ field_of 32 (text_of (min k 9) amount)
    → from ≡ 32 - length (text_of (min k 9) amount) → a ≡ min w 32 → b ≡ min from (32 - a) → take (32 - b) (drop b field) ≡ shown_of p k w x
unfolding shown_of
shown p k w x {amount} {field} {from} {a} {b} units made first width place =
    let t = text_of (min k 9) amount in
    let fits = short (min k 9) amount (omega arith) (omega (arith, few (min p 9) x amount units.1)) in
    let end : drop b field ≡ padded (min w 32) t = rw (place, first, width, made) (right_end w t fits) in
    let long : length (padded (min w 32) t) ≤ 32 - b = simp length-append (omega (arith, length-replicate {A = ℕ} (min w 32 - length t) 32, fits, place, first, width)) in
    rw (end, ← units.0) (take_all (32 - b) (padded (min w 32) t) long)
