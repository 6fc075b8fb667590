-- Values as fractions: one operation of two of them rounds once, a comparison is one of fractions, 10^k is a double up to 10^22, and the fields of a double say which fraction it is.
use mathlib.Core.Path.{◌≡◌, refl, sym, ap, ◌∙◌}
use mathlib.Core.Bool.{true, false}
use Prim.Native.Nat.{ℕ, zero, suc, ◌+◌, ◌-◌, ◌*◌, ◌^◌, ◌≤◌, ◌<◌, ◌/◌, ◌%◌}
use native.Mathlib.Nat.{mul_assoc, mul-one, mul-pos, lt_of_le_of_lt, lt_of_lt_of_le, lt_of_not-le, pow-suc, pow-le-pow_right, one-le-pow, add_comm, mod-lt, lt_irrefl, mul-le-mul, mul-le-mul_right, div-add-mod'}
use native.Mathlib.Numerals.{add-one}
use native.Mathlib.Omega.{arith}
use native.Mathlib.Decide.{dec_le}
use lib.Dec.{T, le→leb, lit<, lit≤}
use lib.IntN.{ℤ, pos}
use lib.Pow.{pow-add, pow_mono, shl_lt, pow_pos}
use lib.Ieee.{Float, nan, inf, fin, binary64, up, down, round, mul, div, le, of_int, of_bits, in_float, in_unsigned, to_unsigned}
use lib.Ieee.Back.{round_whole, unsigned_back}
use lib.Ieee.Exact.{HasValue, round_exact}
use lib.Ieee.Fits.{down_pos}
use lib.Ieee.Order.{le_of_values}
use lib.Ieee.Positive.{positive, positive_of_value, values_of_le, first_pos}
use lib.Ieee.Scale.{round_same}
use borrow.Author.Tests.{ne_eqb}
use Rattle.float.proofs.Patterns.{normal_value, subnormal_value}
use Rattle.float.proofs.Value.{rescale}
use Rattle.decimal.specs.Units.{tiny}

-- ---- two values, a / c and b / d
module _ (x y : Float) (a c b d : ℕ) (C : 0 < c) (D : 0 < d) (v : HasValue x false a c) (w : HasValue y false b d) where
  pub is_le : 0 < a → T (positive y) → le x y ≡ true → a * d ≤ b * c
  is_le A B h = values_of_le x y a c b d (positive_of_value x a c v A) B v w (rw h tt)

  pub not_le : le x y ≡ false → b * c < a * d
  not_le h = lt_of_not-le (λ g. rw h at (le_of_values x y a c b d C D v w g))

parts : (x : Float) (a c : ℕ) → HasValue x false a c → (m : ℕ) × (e : ℤ) × (x ≡ fin false m e) × (m * up e * c ≡ a * down e)
parts nan a c v = absurd v
parts (inf s) a c v = absurd v
parts (fin s m e) a c v = (m, e, ap (λ s. fin s m e) v.0, v.1)

product_cross : (x y p q a c b d : ℕ) → x * c ≡ a * p → y * d ≡ b * q → x * y * (c * d) ≡ a * b * (p * q)
product_cross x y p q a c b d h k = omega (arith, ap (λ (z : ℕ). z * (y * d)) h, ap (λ (z : ℕ). a * p * z) k)

quotient_cross : (x y p q a c b d : ℕ) → x * c ≡ a * p → y * d ≡ b * q → x * q * (b * c) ≡ a * d * (y * p)
quotient_cross x y p q a c b d h k = omega (arith, ap (λ (z : ℕ). z * (b * q)) h, ap (λ (z : ℕ). a * p * z) k)

module _ (x y : Float) (a c b d : ℕ) (C : 0 < c) (D : 0 < d) (v : HasValue x false a c) (w : HasValue y false b d) where
  pub mul_value : mul binary64 x y ≡ round binary64 false (a * b) (c * d)
  unfolding mul
  mul_value =
      let (m, e, x_is, h) = parts x a c v in let (n, g, y-is, k) = parts y b d w in
      rw (x_is, y-is) (round_same binary64 false (m * up e * (n * up g)) (down e * down g) (a * b) (c * d) (mul-pos (down_pos e) (down_pos g)) (mul-pos C D)
      (product_cross (m * up e) (n * up g) (down e) (down g) a c b d h k))

  pub div_value : 0 < b → div binary64 x y ≡ round binary64 false (a * d) (b * c)
  unfolding div
  div_value B =
      let (m, e, x_is, h) = parts x a c v in let (n, g, y-is, k) = parts y b d w in
      let some : 0 < n * up g = first_pos (n * up g) d (rw k (mul-pos B (down_pos g))) in
      rw (x_is, y-is, ne_eqb n 0 (λ z. omega (arith, rw z at some)))
      (round_same binary64 false (m * up e * down g) (n * up g * down e) (a * d) (b * c) (mul-pos some (down_pos e)) (mul-pos B C)
      (quotient_cross (m * up e) (n * up g) (down e) (down g) a c b d h k))

-- ---- whole numbers
int_is : (n : ℕ) → of_int binary64 (pos n) ≡ round binary64 false n 1
unfolding of_int
int_is n = refl

pub whole_value : (m : ℕ) → m < 10 ^ 15 → HasValue (of_int binary64 (pos m)) false m 1
whole_value m h = rw int_is (round_whole binary64 false m (omega arith))

pub counts : (m : ℕ) → m < 10 ^ 15 → T (in_float binary64 (pos m))
unfolding in_float
counts m h = le→leb m (2 ^ 53) (omega arith)

pub ten_pos : (k : ℕ) → 0 < 10 ^ k
ten_pos k = one-le-pow k 10 (lit< tt)

twos_and_fives : (k : ℕ) → 10 ^ k ≡ 5 ^ k * 2 ^ k
twos_and_fives zero = refl
twos_and_fives (suc k) = rw (pow-suc, pow-suc, pow-suc, twos_and_fives k) (omega arith)

pub ten_value : (k : ℕ) → k ≤ 22 → HasValue (of_int binary64 (pos (10 ^ k))) false (10 ^ k) 1
ten_value k h =
    let few : 5 ^ k < 2 ^ 53 = lt_of_le_of_lt (pow-le-pow_right (lit< tt) {i = k} {j = 22} h) (lit< tt) in
    rw int_is (round_exact binary64 false (10 ^ k) 1 (5 ^ k) (k + 1074) (lit< tt) few (lt_of_lt_of_le (shl_lt 53 (k + 1074) few) (pow_mono {i = 53 + (k + 1074)} {j = 2098} (omega arith)))
    (rw (twos_and_fives k, pow-add 2 k 1074) (mul_assoc (5 ^ k) (2 ^ k) (2 ^ 1074) ∙ sym (mul-one _))))

ten_bits : HasValue (of_bits binary64 0x4024_0000_0000_0000) false 10 1
unfolding of_bits
ten_bits = (refl, refl)

pub next_ten : (k : ℕ) → k ≤ 22 → mul binary64 (of_int binary64 (pos (10 ^ k))) (of_bits binary64 0x4024_0000_0000_0000) ≡ of_int binary64 (pos (10 ^ (k + 1)))
next_ten k h = mul_value _ _ (10 ^ k) 1 10 1 (lit< tt) (lit< tt) (ten_value k h) ten_bits ∙ rw (add-one k, pow-suc, int_is)

pub ten_cast : (k : ℕ) → k ≤ 9 → T (in_unsigned binary64 64 (of_int binary64 (pos (10 ^ k)))) × (to_unsigned 64 (of_int binary64 (pos (10 ^ k))) ≡ 10 ^ k)
ten_cast k h =
    let most : 10 ^ k ≤ 10 ^ 9 = pow-le-pow_right (lit< tt) {i = k} {j = 9} h in unsigned_back binary64 64 (10 ^ k) (counts (10 ^ k) (omega arith)) (omega arith)

-- ---- m * 10 ^ up / 10 ^ down, rounded once
module _ (m up down : ℕ) (few : m < 10 ^ 15) where
  pub product : up ≤ 22 → down ≤ up → mul binary64 (of_int binary64 (pos m)) (of_int binary64 (pos (10 ^ (up - down)))) ≡ round binary64 false (m * 10 ^ up) (10 ^ down)
  product most h =
      let s : up ≡ up - down + down = omega arith in
      mul_value _ _ m 1 (10 ^ (up - down)) 1 (lit< tt) (lit< tt) (whole_value m few) (ten_value (up - down) (omega arith))
      ∙ round_same binary64 false (m * 10 ^ (up - down)) 1 (m * 10 ^ up) (10 ^ down) (lit< tt) (ten_pos down)
      (omega (arith, ap (λ (z : ℕ). m * z) (ap (λ (z : ℕ). 10 ^ z) s ∙ pow-add 10 (up - down) down)))

  pub quotient : down ≤ 22 → up < down → div binary64 (of_int binary64 (pos m)) (of_int binary64 (pos (10 ^ (down - up)))) ≡ round binary64 false (m * 10 ^ up) (10 ^ down)
  quotient most h =
      let s : down ≡ up + (down - up) = omega arith in
      div_value _ _ m 1 (10 ^ (down - up)) 1 (lit< tt) (lit< tt) (whole_value m few) (ten_value (down - up) (omega arith)) (ten_pos (down - up))
      ∙ round_same binary64 false (m * 1) (10 ^ (down - up) * 1) (m * 10 ^ up) (10 ^ down) (omega (arith, ten_pos (down - up))) (ten_pos down)
      (omega (arith, ap (λ (z : ℕ). m * z) (ap (λ (z : ℕ). 10 ^ z) s ∙ pow-add 10 up (down - up))))

-- over plain variables: S is 2 ^ 1074, E is 2 ^ (x - 1)
too_low : (m E S : ℕ) → m < 2 ^ 53 → 0 < E → E * 2 ^ 84 ≤ S → 1 * S ≤ m * E * 2 ^ 31 → ⊥
too_low m E S h some g k = omega (arith, mul-le-mul_right E h)

too_high : (m E S : ℕ) → 2 ^ 52 ≤ m → 0 < S → S * 2 ^ 8 ≤ E → m * E < 10 ^ 18 * S → ⊥
too_high m E S h some g k = omega (arith, mul-le-mul h g)

pub tiny_value : HasValue tiny false 1 (2 ^ 31)
unfolding of_bits
tiny_value = (refl, refl)

-- ---- the fields of y, from 2^-31 to below 10^18: it is (t + 2^52) * 256 / 2^(1083 - x), t being its digits and x its exponent's field
module _ (y : Float) (w : ℕ) (is : of_bits binary64 w ≡ y) (under : w < 2047 * 2 ^ 52) (above-0 : T (positive y)) (low : le tiny y ≡ true) (high : (a c : ℕ) → 0 < c → HasValue y false a c → a < 10 ^ 18 * c) where
  abbrev x : ℕ
  x = w / 2 ^ 52

  abbrev m : ℕ
  m = w % 2 ^ 52 + 2 ^ 52

  m_below : m < 2 ^ 53
  m_below = let h : w % 2 ^ 52 < 2 ^ 52 = mod-lt w (lit< tt) in omega arith

  normal : 2 ^ 52 ≤ w → HasValue y false (m * 2 ^ (x - 1)) (2 ^ 1074)
  normal some =
      let s : suc (x - 1) ≡ x = omega arith in
      rw (add_comm (2 ^ 52) (w % 2 ^ 52), ap (λ (z : ℕ). z * 2 ^ 52 + w % 2 ^ 52) s ∙ div-add-mod' w (2 ^ 52), is) at
      (normal_value binary64 (x - 1) (w % 2 ^ 52) (omega arith) (mod-lt w (lit< tt)))

  -- no subnormal number, and the field of the exponent is in between
  some : 2 ^ 52 ≤ w
  some = by (dec_le (2 ^ 52) w)
    where
      by : Dec (2 ^ 52 ≤ w) → 2 ^ 52 ≤ w
      by (yes h) = h
      by (no h) =
          let small : w < 2 ^ 52 = lt_of_not-le h in
          let v = is_le tiny y 1 (2 ^ 31) (w * 2 ^ 0) (2 ^ 1074) (lit< tt) (pow_pos 1074) tiny_value (rw is at (subnormal_value binary64 w small)) (lit< tt) above-0 low in
          let bound : w * 2 ^ 0 * 2 ^ 31 < 2 ^ 84 = omega (arith, small) in absurd (lt_irrefl (2 ^ 84) (lt_of_le_of_lt (lit≤ tt) (lt_of_le_of_lt v bound)))

  pub from : 991 < x
  from = lt_of_not-le (λ (h : x ≤ 991). too_low m (2 ^ (x - 1)) (2 ^ 1074) m_below (pow_pos (x - 1)) (rw (sym (pow-add 2 (x - 1) 84)) (pow_mono {i = x - 1 + 84} {j = 1074} (omega arith)))
      (is_le tiny y 1 (2 ^ 31) (m * 2 ^ (x - 1)) (2 ^ 1074) (lit< tt) (pow_pos 1074) tiny_value (normal some) (lit< tt) above-0 low))

  pub most : x < 1083
  most = lt_of_not-le (λ (h : 1083 ≤ x). too_high m (2 ^ (x - 1)) (2 ^ 1074) (omega arith) (pow_pos 1074) (pow_mono {i = 1082} {j = x - 1} (omega arith))
      (high (m * 2 ^ (x - 1)) (2 ^ 1074) (pow_pos 1074) (normal some)))

  pub is_fraction : HasValue y false (m * 256) (2 ^ (1083 - x))
  is_fraction = let f = from in let t = most in
      let s : x - 1 + (1083 - x) ≡ 1082 = omega arith in
      rescale y false (m * 2 ^ (x - 1)) (2 ^ 1074) (m * 256) (2 ^ (1083 - x)) (pow_pos 1074)
      (regroup m (2 ^ 1074) (2 ^ (x - 1)) (2 ^ (1083 - x)) (sym (pow-add 2 (x - 1) (1083 - x)) ∙ ap (λ (z : ℕ). 2 ^ z) s)) (normal some)
    where
      regroup : (m S E J : ℕ) → E * J ≡ S * 256 → m * 256 * S ≡ m * E * J
      regroup m S E J h = omega (arith, ap (λ (z : ℕ). m * z) h)
