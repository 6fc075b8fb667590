-- `units_of` follows the rule and counts less than 2^64; which amount it is, by the comparisons that the code makes.
use mathlib.Core.Path.{◌≡◌, refl, sym, ap, ◌∙◌}
use mathlib.Core.Bool.{Bool, true, false, ◌&&◌, cond, true≢false, false≢true, not-not}
use Prim.Native.Nat.{ℕ, zero, suc, ◌+◌, ◌-◌, ◌*◌, ◌/◌, ◌%◌, ◌^◌, ◌≤◌, ◌<◌}
use native.Mathlib.Nat.{le_of_suc-le-suc, lt_of_not-le, mul-le-mul_left, mul-le-mul_right, pow-le-pow_right}
use native.Mathlib.Omega.{arith}
use lib.Dec.{T, leb, ltb, lit<}
use lib.IntN.{ℤ, pos}
use lib.Pow.{pow-add, pow_pos}
use lib.Ieee.{Float, nan, inf, fin, binary64, up, down, neg, le, fits, is_nan, of_bits, of_int, to_bits}
use lib.Ieee.Bits.{of_bits-to_bits}
use lib.Ieee.Exact.{HasValue}
use lib.Ieee.Fits.{down_pos}
use lib.Ieee.Nearest.{closest, closest_same}
use lib.Ieee.Positive.{above, above_of_le}
use borrow.Author.Tests.{leb-true, leb-false, le-leb, lt-leb}
use Rattle.float.proofs.Unique.{only}
use Rattle.decimal.specs.Text.{count_of}
use Rattle.decimal.specs.Units.{IsNearest, Rule, IsUnits, tiny, units_of, units_of_fraction}
use Rattle.decimal.specs.declared.units.Amount.{Amount}
use Rattle.decimal.specs.declared.units.Amount.TheVariants.{Count, Large, NoNumber}
use Rattle.decimal.proofs.Nearest.{closest_nearest, nearest_alone, nearest_zero}
use Rattle.decimal.proofs.Values.{is_le, not_le, ten_pos, ten_value, tiny_value}
use Rattle.decimal.proofs.Values as values
use Rattle.float.proofs.Patterns.{finite_below}

-- ---- the rule
rule : (p : ℕ) (x : Float) → Rule p x (units_of p x)
unfolding units_of
rule p nan = refl
rule p (inf s) = refl
rule p (fin s m e) = by (leb (10 ^ 18 * down e) (m * up e * 10 ^ p)) refl
  where
    by : (b : Bool) → leb (10 ^ 18 * down e) (m * up e * 10 ^ p) ≡ b → let n = closest (m * up e * 10 ^ p) (down e) in Rule p (fin s m e) (cond b Large (Count (s && ltb 0 n) n))
    by true h = leb-true _ _ h
    by false h = (leb-false _ _ h, closest_nearest _ _ (down_pos e), refl)

pub is_units : (p : ℕ) (x : Float) {r : Amount} → r ≡ units_of p x → IsUnits p x r
is_units p x e = (e, rw e (rule p x))

pub unique : (p : ℕ) (x : Float) {r q : Amount} → IsUnits p x r → IsUnits p x q → r ≡ q
unique p x R Q = only R.0 Q.0

-- 10 ^ 18 at most, so that every number of units is a u64
pub few : (p : ℕ) (x : Float) (r : Amount) → Rule p x r → count_of r ≤ 10 ^ 18
few p nan r R = rw R (omega arith)
few p (inf s) r R = rw R (omega arith)
few p (fin s m e) (Count v n) (h, N, _) = le_of_suc-le-suc (lt_of_not-le (λ (g : suc (10 ^ 18) ≤ n). omega (arith, mul-le-mul_right (down e) g, N.over)))
few p (fin s m e) Large R = omega arith
few p (fin s m e) NoNumber R = omega arith

pub no_number : (p : ℕ) (x : Float) → is_nan x ≡ true → NoNumber ≡ units_of p x
unfolding units_of is_nan
no_number p nan e = refl
no_number p (inf s) e = absurd (false≢true e)
no_number p (fin s m i) e = absurd (false≢true e)

pub neg_neg : (x : Float) → neg (neg x) ≡ x
unfolding neg
neg_neg nan = refl
neg_neg (inf s) = ap inf (not-not s)
neg_neg (fin s m e) = ap (λ s. fin s m e) (not-not s)

-- ---- less than half a unit
no_minus : (s : Bool) → Count false 0 ≡ Count (s && ltb 0 0) 0
no_minus true = refl
no_minus false = refl

module _ (p : ℕ) (P : p ≤ 9) where
  none : (s : Bool) (m : ℕ) (e : ℤ) → m * up e * 2 ^ 31 < 1 * down e → Count false 0 ≡ units_of p (fin s m e)
  unfolding units_of
  none s m e h =
      let a = m * up e * 10 ^ p in let most : 10 ^ p ≤ 10 ^ 9 = pow-le-pow_right (lit< tt) {i = p} {j = 9} P in
      let less : 2 * a < down e = omega (arith, mul-le-mul_left (m * up e) most) in
      let zero-units : closest a (down e) ≡ 0 = nearest_alone a (down e) (down_pos e) (closest_nearest a (down e) (down_pos e)) (nearest_zero a (down e) less) in
      rw (lt-leb (10 ^ 18 * down e) a (omega arith), zero-units) (no_minus s)

  pub when_tiny : (x : Float) → is_nan x ≡ false → le tiny x ≡ false → le tiny (neg x) ≡ false → Count false 0 ≡ units_of p x
  unfolding is_nan neg le of_bits
  when_tiny nan n h k = absurd (true≢false n)
  when_tiny (inf true) n h k = absurd (true≢false k)
  when_tiny (inf false) n h k = absurd (true≢false h)
  when_tiny (fin true m e) n h k = none true m e (not_le tiny (fin false m e) 1 (2 ^ 31) (m * up e) (down e) (lit< tt) (down_pos e) tiny_value (refl, refl) k)
  when_tiny (fin false m e) n h k = none false m e (not_le tiny (fin false m e) 1 (2 ^ 31) (m * up e) (down e) (lit< tt) (down_pos e) tiny_value (refl, refl) h)

  below_infinity : (x : Float) (a c : ℕ) → HasValue x false a c → le x (inf false) ≡ true
  unfolding le
  below_infinity nan a c v = absurd v
  below_infinity (inf s) a c v = absurd v
  below_infinity (fin s m e) a c v = refl

  -- ---- ±y, from 2^-31 on
  abbrev limit : Float
  limit = of_int binary64 (pos (10 ^ (18 - p)))

  limit_value : HasValue limit false (10 ^ (18 - p)) 1
  limit_value = ten_value (18 - p) (omega arith)

  tens : 10 ^ (18 - p) * 10 ^ p ≡ 10 ^ 18
  tens = let s : 18 - p + p ≡ 18 = omega arith in sym (pow-add 10 (18 - p) p) ∙ ap (λ (z : ℕ). 10 ^ z) s

  module _ (negative : Bool) where
    abbrev amount : Float → Amount
    amount y = units_of p (cond negative (neg y) y)

    signed : (m : ℕ) (e : ℤ) → amount (fin false m e) ≡ units_of_fraction p negative (m * up e) (down e)
    unfolding units_of neg
    signed m e = by negative
      where
        by : (s : Bool) → units_of p (cond s (neg (fin false m e)) (fin false m e)) ≡ units_of_fraction p s (m * up e) (down e)
        by true = refl
        by false = refl

    above_zero : (y : Float) → le tiny y ≡ true → T (above y)
    unfolding of_bits
    above_zero y h = above_of_le tiny y tt (rw h tt)

    large : (y : Float) → T (above y) → le limit y ≡ true → Large ≡ amount y
    unfolding units_of neg
    large nan a h = absurd a
    large (inf true) a h = absurd a
    large (inf false) a h = by negative
      where
        by : (s : Bool) → Large ≡ units_of p (cond s (neg (inf false)) (inf false))
        by true = refl
        by false = refl
    large (fin true m e) a h = absurd a
    large (fin false m e) a h =
        let g = is_le limit (fin false m e) (10 ^ (18 - p)) 1 (m * up e) (down e) (lit< tt) (down_pos e) limit_value (refl, refl) (ten_pos (18 - p)) a h in
        let scaled : 10 ^ 18 * down e ≤ m * up e * 10 ^ p = omega (arith, mul-le-mul_right (10 ^ p) g, ap (λ (z : ℕ). z * down e) tens) in
        sym (signed m e ∙ rw (le-leb _ _ scaled))

    pub when_large : (y : Float) → le tiny y ≡ true → le limit y ≡ true → Large ≡ amount y
    when_large y low = large y (above_zero y low)

    -- the code's m and j
    abbrev top : ℕ → ℕ
    top w = (w % 2 ^ 52 + 2 ^ 52) * 256

    abbrev cut : ℕ → ℕ
    cut w = 1083 - w / 2 ^ 52

    -- below 10^18 units: the exponent's field is in range, the product fits, and the number nearest to it is that of units
    pub record Ready (y : Float) (w : ℕ) : Type 0 where
      pub from : 991 < w / 2 ^ 52
      pub most : w / 2 ^ 52 < 1083
      pub fits : top w * 10 ^ p < 10 ^ 18 * 2 ^ cut w
      pub right : (n : ℕ) → IsNearest (top w * 10 ^ p) (2 ^ cut w) n → Count (negative && ltb 0 n) n ≡ amount y

    ready : (y : Float) → T (fits binary64 y) → T (above y) → le tiny y ≡ true → le limit y ≡ false → Ready y (to_bits binary64 y)
    ready nan f a low h = absurd a
    ready (inf true) f a low h = absurd a
    ready (inf false) f a low h = absurd (true≢false (sym (below_infinity limit _ _ limit_value) ∙ h))
    ready (fin true m e) f a low h = absurd a
    ready (fin false zero e) f a low h = absurd a
    ready (fin false (suc m) e) f a low h =
        let y = fin false (suc m) e in let w = to_bits binary64 y in
        let few : (a c : ℕ) → 0 < c → HasValue y false a c → a * 10 ^ p < 10 ^ 18 * c =
        (λ a c C v. omega (arith, mul-le-mul_right (10 ^ p) (not_le limit y (10 ^ (18 - p)) 1 a c (lit< tt) C limit_value v h), ten_pos p, ap (λ (z : ℕ). z * c) tens)) in
        let is = of_bits-to_bits binary64 y f in let under = finite_below binary64 m e f in
        let high : (a c : ℕ) → 0 < c → HasValue y false a c → a < 10 ^ 18 * c = (λ a c C v. omega (arith, few a c C v, mul-le-mul_left a (ten_pos p))) in
        let v = values.is_fraction y w is under a low high in let j = pow_pos (cut w) in
        record {
          from = values.from y w is under a low high;
          most = values.most y w is under a low high;
          fits = few (top w) (2 ^ cut w) j v;
          right = λ n N.
              let q = suc m * up e * 10 ^ p in
              let same : n ≡ closest q (down e) = nearest_alone _ _ j N (closest_nearest _ _ j) ∙ closest_same (top w * 10 ^ p) (2 ^ cut w) q (down e) j (down_pos e) (omega (arith, ap (λ (z : ℕ). z * 10 ^ p) v.1)) in
              rw same (sym (signed (suc m) e ∙ rw (lt-leb (10 ^ 18 * down e) q (few (suc m * up e) (down e) (down_pos e) (refl, refl)))));
        }

    pub when_counted : (y : Float) → T (fits binary64 y) → le tiny y ≡ true → le limit y ≡ false → {w : ℕ} → w ≡ to_bits binary64 y → Ready y w
    when_counted y f low h e = rw e (ready y f (above_zero y low) low h)
