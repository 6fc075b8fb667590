-- A number without leading zeros is std's decimal text; a text in the making, whose digits are put one after the other, from the last; and the field at the end.
use mathlib.Core.Path.{◌≡◌, refl, sym, ap, ◌∙◌}
use mathlib.Core.List.{List, [], ◌∷◌, ◌++◌, append_assoc}
use Prim.Native.Nat.{ℕ, zero, suc, ◌+◌, ◌-◌, ◌/◌, ◌%◌, ◌^◌, ◌≤◌, ◌<◌}
use native.Mathlib.Omega.{arith}
use lib.ListN.{length, replicate, length-append}
use borrow.Author.Tests.{ne_eqb, lt-ltb, le-ltb}
use Rattle.std.specs.Fmt.{decimal}
use Rattle.std.proofs.lemmas.Fmt.{AppendsLastDigit, decimal_from_appends_wide, length-decimal-le_wide}
use Rattle.decimal.specs.Text.{last, few_digits, whole_of, pointed, numeral_of, field_of}

-- ---- a whole number
-- at most k digits, the last one always
some_digits : (k n : ℕ) → List ℕ
some_digits zero n = []
some_digits (suc k) n = few_digits k (n / 10) ++ last n

no_more : (k n : ℕ) → few_digits k 0 ++ (48 + n) ∷ [] ≡ (48 + n) ∷ []
unfolding few_digits
no_more zero n = refl
no_more (suc k) n = refl

one_more : (k n : ℕ) → 10 ≤ n → few_digits k (n / 10) ++ last n ≡ some_digits k (n / 10) ++ last n
unfolding some_digits few_digits
one_more zero n h = refl
one_more (suc k) n h = rw (ne_eqb (n / 10) 0 (λ e. omega arith))

appends : AppendsLastDigit some_digits
unfolding some_digits
appends = record {
  one = λ k n h. let none : n / 10 ≡ 0 = omega arith in let digit : n % 10 ≡ n = omega arith in rw (none, digit) (no_more k n);
  more = one_more;
}

pub whole_decimal : (n : ℕ) → n < 10 ^ 20 → whole_of n ≡ decimal n
unfolding whole_of some_digits
whole_decimal n h = let few : n < 10 ^ 64 = omega arith in decimal_from_appends_wide some_digits appends 20 n few (length-decimal-le_wide 20 n (omega arith) h few)

-- ---- a number with a point in it: what is left to put, in front of what stands
point_more : (left rest : ℕ) → 0 < left → pointed left rest ≡ pointed (left - 1) (rest / 10) ++ last rest
unfolding pointed
point_more left rest h = let s : left ≡ suc (left - 1) = omega arith in ap (λ (z : ℕ). pointed z rest) s

pub with_point : (k n : ℕ) → (k ≡ 0 → ⊥) → numeral_of k n ≡ pointed k n
with_point zero n h = absurd (h refl)
with_point (suc k) n h = refl

pub all_fits : (k n : ℕ) (old : List ℕ) → (k ≡ 0 → ⊥) → length (numeral_of k n) + length old ≤ 22 → length (pointed k n ++ old) ≤ 22
all_fits k n old some h = simp length-append (rw (with_point k n some) at h)

pub record Putting (left rest : ℕ) (now all : List ℕ) : Type 0 where
  pub same : pointed left rest ++ now ≡ all

pub begun : (k left n : ℕ) (old : List ℕ) → left ≡ k → Putting left n old (pointed k n ++ old)
begun k left n old e = record { same = rw e }

module _ {left rest : ℕ} {now all : List ℕ} (p : Putting left rest now all) where
  pub room : 0 < left → length all ≤ 22 → length now < 22
  room some few = let e = rw (point_more left rest some) at p.same in omega (arith, few, simp length-append at (ap length e))

  pub digit_put : (less : ℕ) → left ≡ less + 1 → Putting less (rest / 10) ((48 + rest % 10) ∷ now) all
  digit_put less more =
      let s : left - 1 ≡ less = omega arith in
      record { same = sym (append_assoc (pointed less (rest / 10)) (last rest) now) ∙ rw (point_more left rest (omega arith), s) at p.same }

  pub point_put : left ≡ 0 → whole_of rest ++ 46 ∷ now ≡ all
  unfolding pointed
  point_put none = sym (append_assoc (whole_of rest) (46 ∷ []) now) ∙ rw none at p.same

  pub point_room : left ≡ 0 → length all ≤ 22 → length (whole_of rest) + (length now + 1) ≤ 22
  point_room none few = let e = simp length-append at (ap length (point_put none)) in omega (arith, few, e)

-- ---- a field
module _ (l : List ℕ) {bytes t : List ℕ} (is : bytes ≡ t) where
  pub too_short : {after : List ℕ} → (length bytes ≤ length l → ⊥) → after ≡ replicate (length l) 35 → (after ≡ field_of (length l) t) × (0 ≡ length l - length t)
  unfolding field_of
  too_short n e = let more : length l < length bytes = omega arith in let less = rw is at more in (e ∙ rw (lt-ltb _ _ less), omega arith)

  pub placed : {front rear : List ℕ} {at : ℕ} → length bytes ≤ length l → at ≡ length l - length bytes → front ≡ replicate at 32 → rear ≡ bytes
      → (front ++ rear ≡ field_of (length l) t) × (at ≡ length l - length t)
  unfolding field_of
  placed fits from f r = rw (← is) (rw (le-ltb _ _ fits, f, r, from), from)
