-- A text says its number, is 22 bytes long at most, and there is no second field.
use mathlib.Core.Path.{◌≡◌, refl, ◌∙◌}
use mathlib.Core.Bool.{Bool, true, false, cond}
use mathlib.Core.List.{List, [], ◌∷◌, ◌++◌}
use Prim.Native.Nat.{ℕ, zero, suc, ◌+◌, ◌-◌, ◌*◌, ◌/◌, ◌%◌, ◌^◌, ◌≤◌, ◌<◌}
use native.Mathlib.Nat.{pow-suc}
use native.Mathlib.Omega.{arith}
use lib.Dec.{eqb}
use lib.ListN.{length, length-append}
use borrow.Author.Tests.{eqb-true, le-leb}
use Rattle.float.specs.Lists.{fold}
use Rattle.float.proofs.Fold.{fold_append}
use Rattle.float.proofs.Unique.{only}
use Rattle.std.proofs.lemmas.Fmt.{length-decimal-le_wide}
use Rattle.decimal.proofs.Digits.{whole_decimal}
use Rattle.decimal.specs.Text.{said, last, few_digits, whole_of, pointed, numeral_of, sign_of, text_of, count_of, IsShown}
use Rattle.decimal.specs.declared.units.Amount.{Amount}
use Rattle.decimal.specs.declared.units.Amount.TheVariants.{Count, Large, NoNumber}

pub unique : (k : ℕ) (amount : Amount) (before : List ℕ) {r q : ℕ} {after other : List ℕ} → IsShown k amount before r after → IsShown k amount before q other → (r ≡ q) × (after ≡ other)
unique k amount before (e, h) (f, g) = (only h g, only e f)

-- ---- the digits read back
one_more : (l : List ℕ) (n : ℕ) → said (l ++ last n) ≡ said l * 10 + n % 10
unfolding fold
one_more l n = let e : 48 + n % 10 - 48 ≡ n % 10 = omega arith in
    fold_append _ l (last n) 0 ∙ rw (le-leb 48 (48 + n % 10) (omega arith), le-leb (48 + n % 10) 57 (omega arith), e)

few_says : (k n : ℕ) → n < 10 ^ k → said (few_digits k n) ≡ n
unfolding few_digits fold
few_says zero n h = omega arith
few_says (suc k) n h = by (eqb n 0) refl (few_says k (n / 10) (omega (arith, rw pow-suc at h)))
  where
    by : (b : Bool) → eqb n 0 ≡ b → said (few_digits k (n / 10)) ≡ n / 10 → said (cond b [] (few_digits k (n / 10) ++ last n)) ≡ n
    by true e r = omega (arith, eqb-true n 0 e)
    by false e r = one_more (few_digits k (n / 10)) n ∙ rw r (omega arith)

whole_says : (n : ℕ) → n < 10 ^ 20 → said (whole_of n) ≡ n
unfolding whole_of
whole_says n h = one_more (few_digits 19 (n / 10)) n ∙ rw (few_says 19 (n / 10) (omega arith)) (omega arith)

pointed_says : (k n : ℕ) → n < 10 ^ 20 → said (pointed k n) ≡ n
unfolding pointed fold
pointed_says zero n h = fold_append _ (whole_of n) (46 ∷ []) 0 ∙ whole_says n h
pointed_says (suc k) n h = one_more (pointed k (n / 10)) n ∙ rw (pointed_says k (n / 10) (omega arith)) (omega arith)

pub says_back : (k : ℕ) (negative : Bool) (n : ℕ) → n < 2 ^ 64 → said (text_of k (Count negative n)) ≡ n
unfolding fold
says_back zero true n h = whole_says n (omega arith)
says_back zero false n h = whole_says n (omega arith)
says_back (suc k) true n h = pointed_says (suc k) n (omega arith)
says_back (suc k) false n h = pointed_says (suc k) n (omega arith)

-- ---- how long it is
whole_length : (j n : ℕ) → n < 10 ^ suc j → n < 10 ^ 20 → length (whole_of n) ≤ suc j
whole_length j n h few = rw (whole_decimal n few) (length-decimal-le_wide (suc j) n (omega arith) h (omega arith))

pointed_length : (k j n : ℕ) → n < 10 ^ (suc j + k) → n < 10 ^ 20 → length (pointed k n) ≤ suc j + k + 1
unfolding pointed
pointed_length zero j n h few = let s : suc j + 0 ≡ suc j = omega arith in simp length-append (omega (arith, whole_length j n (rw s at h) few))
pointed_length (suc k) j n h few =
    let s : suc j + suc k ≡ suc (suc j + k) = omega arith in simp length-append (omega (arith, pointed_length k j (n / 10) (omega (arith, rw (s, pow-suc) at h)) (omega arith)))

pub short : (k : ℕ) (amount : Amount) → k ≤ 9 → count_of amount < 2 ^ 64 → length (text_of k amount) ≤ 22
short k Large h few = omega arith
short k NoNumber h few = omega arith
short k (Count negative n) h few = simp length-append (by negative k h)
  where
    sign : (b : Bool) → length (sign_of b) ≤ 1
    sign true = omega arith
    sign false = omega arith

    by : (b : Bool) (k : ℕ) → k ≤ 9 → length (sign_of b) + length (numeral_of k n) ≤ 22
    by b zero h = omega (arith, sign b, whole_length 19 n (omega arith) (omega arith))
    by b (suc k) h =
        let s : suc (18 - k) + suc k ≡ 20 = omega arith in let less : n < 10 ^ 20 = omega arith in
        omega (arith, sign b, pointed_length (suc k) (18 - k) n (rw s less) less)
