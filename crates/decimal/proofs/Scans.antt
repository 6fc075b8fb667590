-- A plain decimal, byte by byte: what the bytes from here on give after those so far is what the text gives; and what digits and a point give.
use mathlib.Core.Path.{◌≡◌, refl, sym, ap, ◌∙◌}
use mathlib.Core.Bool.{Bool, true, false, cond, not, ◌&&◌, ◌||◌, true≢false, false≢true}
use mathlib.Core.List.{List, [], ◌∷◌, ◌++◌, append-nil}
use Prim.Native.Nat.{ℕ, zero, suc, ◌+◌, ◌-◌, ◌*◌, ◌^◌, ◌≤◌, ◌<◌}
use native.Mathlib.Nat.{le_trans, lt_of_not-le, mul-le-mul_left, mul-le-mul_right, one-le-pow, pow-suc}
use native.Mathlib.Numerals.{add-one}
use native.Mathlib.Omega.{arith}
use native.Mathlib.Decide.{dec_le}
use lib.Dec.{eqb, ltb, lit<}
use lib.ListN.{length, get_or, drop, drop_of_length-le}
use lib.Seq.{drop-cons}
use borrow.Author.Tests.{eq-eqb, ne_eqb, le-leb, lt-leb, lt-ltb, ltb-true}
use Rattle.float.specs.Lists.{every, fold}
use Rattle.float.proofs.Fold.{fold_append}
use Rattle.float.proofs.Scan.{both}
use Rattle.float.proofs.Unique.{only}
use Rattle.decimal.specs.Text.{is_digit, said}
use Rattle.decimal.specs.Reading.{Number, wrong, fraction, scanned, number_of, plain, IsNumber}

module _ (c : ℕ) where
  is_one : 48 ≤ c → c ≤ 57 → is_digit c ≡ true
  is_one low high = rw (le-leb 48 c low, le-leb c 57 high)

  is_none : (48 ≤ c → 57 < c) → is_digit c ≡ false
  is_none h = by (dec_le 48 c)
    where
      by : Dec (48 ≤ c) → is_digit c ≡ false
      by (yes g) = rw (le-leb 48 c g, lt-leb c 57 (h g))
      by (no n) = rw (lt-leb 48 c (lt_of_not-le n))

is_false : (b : Bool) → not b ≡ true → b ≡ false
is_false true h = absurd (false≢true h)
is_false false h = refl

-- ---- the loop
pub record Left (up down : ℕ) (text : List ℕ) (m left since : ℕ) (pointed : Bool) (at : ℕ) : Type 0 where
  pub small : (m + 1) * 10 ^ left ≤ 10 ^ 15
  pub few : since + left ≤ 15
  pub fewer : pointed ≡ true → since + left ≤ 14
  pub same : scanned up down m left since pointed at (drop at text) ≡ number_of up down text

module _ {up down : ℕ} {text : List ℕ} where
  pub started : Left up down text 0 15 0 false 0
  started = record { small = omega arith; few = omega arith; fewer = λ e. absurd (false≢true e); same = refl }

  module _ {m left since : ℕ} {pointed : Bool} {at : ℕ} (l : Left up down text m left since pointed at) where
    pub small_enough : m < 10 ^ 15
    small_enough = let one : 1 ≤ 10 ^ left = one-le-pow left 10 (lit< tt) in omega (arith, l.small, mul-le-mul_left (m + 1) one)

    at_end : length text ≤ at → number_of up down text ≡ cond (eqb since 0) (wrong at) (fraction m up (cond pointed since 0 + down))
    unfolding scanned
    at_end h = sym l.same ∙ rw (drop_of_length-le text h)

    pub wanting : length text ≡ at → since ≡ 0 → wrong (length text) ≡ number_of up down text
    wanting h e = rw (at_end (omega arith), eq-eqb since 0 e, h)

    pub done : length text ≤ at → (since ≡ 0 → ⊥) → {places : ℕ} → places ≡ cond pointed since 0 → fraction m up (places + down) ≡ number_of up down text
    done h e p = rw (at_end h, ne_eqb since 0 e, p)

    module _ (inside : at < length text) where
      abbrev c : ℕ
      c = get_or text at 0

      one : number_of up down text
          ≡ cond (is_digit c) (cond (eqb left 0) (wrong at) (scanned up down (m * 10 + (c - 48)) (left - 1) (since + 1) pointed (at + 1) (drop (at + 1) text)))
          (cond (not (eqb c 46) || pointed || eqb since 0) (wrong at) (scanned up down m left 0 true (at + 1) (drop (at + 1) text)))
      unfolding scanned
      one = sym l.same ∙ rw (drop-cons text at 0 inside, add-one at)

      pub too_many : 48 ≤ c → c ≤ 57 → left ≤ 0 → wrong at ≡ number_of up down text
      too_many low high e = rw (one, is_one c low high, eq-eqb left 0 (omega arith))

      pub no_digit : (48 ≤ c → 57 < c) → (c ≡ 46 → ⊥) → wrong at ≡ number_of up down text
      no_digit d n = rw (one, is_none c d, ne_eqb c 46 n)

      pub no_point : c ≡ 46 → (not pointed && ltb 0 since) ≡ false → wrong at ≡ number_of up down text
      no_point e h = rw (one, e) (by pointed since h)
        where
          by : (p : Bool) (n : ℕ) → (not p && ltb 0 n) ≡ false → wrong at ≡ cond (p || eqb n 0) (wrong at) (scanned up down m left 0 true (at + 1) (drop (at + 1) text))
          by true n h = refl
          by false zero h = refl
          by false (suc n) h = absurd (true≢false (sym (lt-ltb 0 (suc n) (omega arith)) ∙ h))

      pub digit : 48 ≤ c → c ≤ 57 → 0 < left → Left up down text (m * 10 + (c - 48)) (left - 1) (since + 1) pointed (at + 1)
      digit low high some =
          let s : left ≡ suc (left - 1) = omega arith in
          let tens : 10 ^ left ≡ 10 ^ (left - 1) * 10 = ap (λ (z : ℕ). 10 ^ z) s ∙ pow-suc 10 (left - 1) in
          let less : m * 10 + (c - 48) + 1 ≤ (m + 1) * 10 = omega arith in
          record {
            small = le_trans (omega (arith, mul-le-mul_right (10 ^ (left - 1)) less, ap (λ (z : ℕ). (m + 1) * z) tens)) l.small;
            few = omega (arith, l.few);
            fewer = λ e. omega (arith, l.fewer e);
            same = sym (one ∙ rw (is_one c low high, ne_eqb left 0 (λ e. omega arith)));
          }

      pub point : c ≡ 46 → (not pointed && ltb 0 since) ≡ true → Left up down text m left 0 true (at + 1)
      point e h =
          let (p, some) = both (not pointed) (ltb 0 since) h in let after : 0 < since = ltb-true 0 since some in
          record { small = l.small; few = omega (arith, l.few); fewer = λ _. omega (arith, l.few, after); same = sym (one ∙ rw (e, is_false pointed p, ne_eqb since 0 (λ z. omega arith))) }

-- ---- a plain decimal
abbrev next : ℕ → ℕ → ℕ
next n c = cond (is_digit c) (n * 10 + (c - 48)) n

module _ (up down : ℕ) where
  all_digits : (digits rest : List ℕ) (m left since : ℕ) (pointed : Bool) (at : ℕ) → every is_digit digits ≡ true → length digits ≤ left
      → scanned up down m left since pointed at (digits ++ rest)
      ≡ scanned up down (fold next m digits) (left - length digits) (since + length digits) pointed (at + length digits) rest
  unfolding scanned every fold
  all_digits [] rest m left since pointed at all fit =
      let a : left - 0 ≡ left = omega arith in let b : since + 0 ≡ since = omega arith in let c : at + 0 ≡ at = omega arith in rw (a, b, c)
  all_digits (c ∷ digits) rest m left since pointed at all fit =
      let (this, others) = both (is_digit c) _ all in let a : left - suc (length digits) ≡ left - 1 - length digits = omega arith in
      let b : since + suc (length digits) ≡ since + 1 + length digits = omega arith in let e : at + suc (length digits) ≡ at + 1 + length digits = omega arith in
      rw (a, b, e, this, ne_eqb left 0 (λ z. omega arith)) (all_digits digits rest (m * 10 + (c - 48)) (left - 1) (since + 1) pointed (at + 1) others (omega arith))

  to_end : (digits : List ℕ) (m left since : ℕ) (pointed : Bool) (at : ℕ) → every is_digit digits ≡ true → length digits ≤ left
      → scanned up down m left since pointed at digits ≡ scanned up down (fold next m digits) (left - length digits) (since + length digits) pointed (at + length digits) []
  to_end digits m left since pointed at all fit = rw append-nil at (all_digits digits [] m left since pointed at all fit)

  says : (front rear : List ℕ) → 0 < length front → every is_digit front ≡ true → every is_digit rear ≡ true → length front + length rear ≤ 15
      → number_of up down (plain front rear) ≡ fraction (said (plain front rear)) up (length rear + down)
  unfolding scanned fold
  says front [] some all_front all_rear few =
      to_end front 0 15 0 false 0 all_front (omega arith) ∙ rw (ne_eqb (0 + length front) 0 (λ e. omega arith))
  says front (d ∷ rear) some all_front all_rear few =
      let R = d ∷ rear in let z : 0 + length R ≡ length R = omega arith in
      all_digits front (46 ∷ R) 0 15 0 false 0 all_front (omega arith) ∙ rw (ne_eqb (0 + length front) 0 (λ e. omega arith))
      (to_end R (fold next 0 front) (15 - length front) 0 true (0 + length front + 1) all_rear (omega arith)
      ∙ rw (ne_eqb (0 + length R) 0 (λ e. omega arith), fold_append next front (46 ∷ R) 0, z))

  pub is_number : (text : List ℕ) {r : Number} → r ≡ number_of up down text → IsNumber up down text r
  is_number text e = (e, λ front rear p. e ∙ rw p.is (says front rear p.some p.all_front p.all_rear p.few))

  pub unique : (text : List ℕ) {r q : Number} → IsNumber up down text r → IsNumber up down text q → r ≡ q
  unique text R Q = only R.0 Q.0
