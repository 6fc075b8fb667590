-- A count reads back as it is written, and a proper beginning of its digits is a smaller count, or nothing: a count of several digits is its tenth's digits and one more.
use mathlib.Core.Path.{◌≡◌, refl, sym, ◌∙◌}
use mathlib.Core.Bool.{Bool, true, false, cond}
use mathlib.Core.List.{List, [], ◌∷◌, ◌++◌, append_assoc, append-nil}
use mathlib.Core.Logic.{inl, inr}
use Prim.Native.Nat.{ℕ, zero, suc, ◌+◌, ◌-◌, ◌*◌, ◌/◌, ◌%◌, ◌^◌, ◌≤◌, ◌<◌}
use native.Mathlib.Nat.{div-div-eq-div-mul}
use native.Mathlib.Omega.{arith}
use lib.Dec.{leb, ltb}
use lib.ListN.{length}
use borrow.Author.Tests.{ltb-true, ltb-false, lt-ltb, le-ltb, le-leb, lt-leb}
use Rattle.std.specs.Fmt.{decimal}
use Rattle.std.proofs.lemmas.Fmt.{decimal_digit, decimal_step}
use Rattle.mesh.specs.Text.{digit, count}
use Rattle.mesh.specs.Items.{digits}
use Rattle.mesh.proofs.Cuts.{Cuts, cuts, cut_one}

-- what digits say after n, one byte c on
module _ (n c : ℕ) (s : List ℕ) where
  pub digits_six : 100000 ≤ n → digits n (c ∷ s) ≡ n
  unfolding digits
  digits_six h = rw (le-ltb n 100000 h)

  pub digits_low : c < 48 → digits n (c ∷ s) ≡ n
  unfolding digits
  digits_low h = rw (lt-leb 48 c h) (either (ltb n 100000))
    where
      either : (t : Bool) → cond t n n ≡ n
      either true = refl
      either false = refl

  pub digits_high : 58 ≤ c → digits n (c ∷ s) ≡ n
  unfolding digits
  digits_high h = rw (le-ltb c 58 h) (either (ltb n 100000) (leb 48 c))
    where
      either : (t u : Bool) → cond t (cond u n n) n ≡ n
      either true true = refl
      either true false = refl
      either false u = refl

  pub digits_more : n < 100000 → 48 ≤ c → c < 58 → digits n (c ∷ s) ≡ digits (n * 10 + (c - 48)) s
  unfolding digits
  digits_more h low high = rw (lt-ltb n 100000 h, le-leb 48 c low, lt-ltb c 58 high)

-- where a count has a digit of a unit, and where not
pub no_digit : (n unit : ℕ) → n < unit → digit n unit ≡ []
unfolding digit
no_digit n unit h = rw (lt-ltb n unit h)

pub one_digit : (n unit : ℕ) → unit ≤ n → digit n unit ≡ (48 + n / unit % 10) ∷ []
unfolding digit
one_digit n unit h = rw (le-ltb n unit h)

-- but for its last, the digits of n are those of its tenth
digit_tenth : (n unit : ℕ) → digit n (10 * unit) ≡ digit (n / 10) unit
unfolding digit
digit_tenth n unit = rw (below (ltb (n / 10) unit) refl, ← div-div-eq-div-mul n 10 unit)
  where
    below : (t : Bool) → ltb (n / 10) unit ≡ t → ltb n (10 * unit) ≡ ltb (n / 10) unit
    below true e = lt-ltb n (10 * unit) (omega (arith, ltb-true (n / 10) unit e)) ∙ sym e
    below false e = le-ltb n (10 * unit) (omega (arith, ltb-false (n / 10) unit e)) ∙ sym e

count_one : (n : ℕ) → n < 10 → count n ≡ (48 + n) ∷ []
unfolding count
count_one n h =
    let e : n % 10 ≡ n = omega arith in
    rw (no_digit n 100000 (omega arith), no_digit n 10000 (omega arith), no_digit n 1000 (omega arith), no_digit n 100 (omega arith), no_digit n 10 h, e)

count_more : (n : ℕ) → 10 ≤ n → n < 1000000 → count n ≡ count (n / 10) ++ ((48 + n % 10) ∷ [])
unfolding count
count_more n l h =
    rw (digit_tenth n 10000, digit_tenth n 1000, digit_tenth n 100, digit_tenth n 10, one_digit n 10 l, no_digit (n / 10) 100000 (omega arith))

-- so what holds of every digit, and of n where it holds of its tenth, holds of every count
by_tens : (P : ℕ → Type 0) → ((n : ℕ) → n < 10 → P n) → ((n : ℕ) → 10 ≤ n → n < 1000000 → P (n / 10) → P n) → (n : ℕ) → n < 1000000 → P n
by_tens P one more n h = go 6 n h h
  where
    go : (k n : ℕ) → n < 10 ^ k → n < 1000000 → P n
    go zero n b h = one n (omega arith)
    go (suc k) n b h = split (ltb n 10) refl (λ b'. go k (n / 10) b' (omega arith))
      where
        split : (t : Bool) → ltb n 10 ≡ t → (n / 10 < 10 ^ k → P (n / 10)) → P n
        split true e ih = one n (ltb-true n 10 e)
        split false e ih = let l : 10 ≤ n = ltb-false n 10 e in more n l h (ih (omega arith))

digit_said : (n d : ℕ) (rest : List ℕ) → n < 100000 → d < 10 → digits n ((48 + d) ∷ rest) ≡ digits (n * 10 + d) rest
digit_said n d rest h g =
    let e : 48 + d - 48 ≡ d = omega arith in
    rw e at (digits_more n (48 + d) rest h (omega arith) (omega arith))

abbrev ReadBack : (n : ℕ) → Type 0
ReadBack n = (rest : List ℕ) → digits 0 (count n ++ rest) ≡ digits n rest

-- THE law of counts
pub read_back : (n : ℕ) → n < 1000000 → ReadBack n
read_back = by_tens ReadBack one more
  where
    one : (n : ℕ) → n < 10 → ReadBack n
    one n h rest = let e : 0 * 10 + n ≡ n = omega arith in rw (count_one n h, digit_said 0 n rest (omega arith) h, e)

    more : (n : ℕ) → 10 ≤ n → n < 1000000 → ReadBack (n / 10) → ReadBack n
    more n l h ih rest =
        let e : n / 10 * 10 + n % 10 ≡ n = omega arith in
        rw (count_more n l h, append_assoc, ih, digit_said (n / 10) (n % 10) rest (omega arith) (omega arith), e)

-- so a count is what std prints
pub count_decimal : (n : ℕ) → n < 1000000 → count n ≡ decimal n
count_decimal =
    by_tens (λ n. count n ≡ decimal n) (λ n h. count_one n h ∙ sym (decimal_digit n h)) (λ n l h ih. rw (count_more n l h, ih) (sym (decimal_step n l (omega arith))))

-- w is a beginning of the count that it says, which is at most n
abbrev pub Begun : (n : ℕ) (w : List ℕ) → Type 0
Begun n w = (digits 0 w ≤ n) × (more : List ℕ) × (count (digits 0 w) ≡ w ++ more)

nothing_begun : (n : ℕ) (w : List ℕ) → w ≡ [] → Begun n w
unfolding digits
nothing_begun n w e = rw e (omega arith, count 0, refl)

whole_begun : (k n : ℕ) (w : List ℕ) → k < 1000000 → k ≤ n → w ≡ count k → Begun n w
unfolding digits
whole_begun k n w h l e =
    let said : digits 0 w ≡ k = rw (e, ← append-nil (count k)) (read_back k h []) in
    rw said (l, [], sym e ∙ sym (append-nil w))

abbrev CutShort : (n : ℕ) → Type 0
CutShort n = (w rest : List ℕ) → count n ≡ w ++ rest → 0 < length rest → Begun n w

pub count_begun : (n : ℕ) → n < 1000000 → CutShort n
count_begun = by_tens CutShort one more
  where
    one : (n : ℕ) → n < 10 → CutShort n
    one n h w rest e l = nothing_begun n w (cut_one (48 + n) w rest (sym (count_one n h) ∙ e) l)

    more : (n : ℕ) → 10 ≤ n → n < 1000000 → CutShort (n / 10) → CutShort n
    more n g h ih w rest e l = by (cuts (count (n / 10)) _ w rest (sym (count_more n g h) ∙ e))
      where
        by : Cuts (count (n / 10)) ((48 + n % 10) ∷ []) w rest → Begun n w
        by (inl (more, e, k)) = let is = ih w more e k in (omega (arith, is.0), is.1, is.2)
        by (inr (more, e, k)) = whole_begun (n / 10) n w (omega arith) (omega arith) (rw (cut_one _ more rest k l, append-nil) at e)
