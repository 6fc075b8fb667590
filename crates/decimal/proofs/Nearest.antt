-- The whole number nearest to a fraction: it is had from the quotient and what is over, `closest` is it, there is no second one; and m * t / 2^j by two parts of the product.
use mathlib.Core.Path.{◌≡◌, sym, ap, ◌∙◌}
use mathlib.Core.Bool.{not}
use Prim.Native.Nat.{ℕ, zero, suc, ◌+◌, ◌*◌, ◌/◌, ◌%◌, ◌≤◌, ◌<◌, compare, Ordering, ◌-◌, ◌^◌}
use native.Mathlib.Nat.{mod-lt, div-add-mod', mul-le-mul_right, div-le_self, mul-le-mul, lt_of_mul-lt-mul_right}
use native.Mathlib.Omega.{arith}
use lib.Arith.{lt_of_le-ne}
use lib.Dec.{T, is_le, compare_is_eq, leb→le, nleb→lt, eqb→eq, eqb_refl}
use lib.Ieee.{nearest}
use lib.Ieee.Nearest.{closest}
use lib.Pow.{pow-add, pow_pos, pow_mono}
use Rattle.decimal.specs.Units.{IsNearest}

-- ---- from the quotient q and what is over, r
module _ (q r c : ℕ) where
  pub below : 2 * r < c → IsNearest (q * c + r) c q
  below h = record { over = omega arith; under = omega arith; even_over = λ e. omega arith; even_under = λ e. omega arith }

  pub above : c < 2 * r → r < c → IsNearest (q * c + r) c (q + 1)
  above h g = record { over = omega arith; under = omega arith; even_over = λ e. omega arith; even_under = λ e. omega arith }

  pub tie : 2 * r ≡ c → IsNearest (q * c + r) c (q + q % 2)
  tie h = by_parity (q % 2) (omega arith) (omega arith)
    where
      by_parity : (p : ℕ) → p < 2 → (q + p) % 2 ≡ 0 → IsNearest (q * c + r) c (q + p)
      by_parity zero b e = record { over = omega arith; under = omega arith; even_over = λ g. e; even_under = λ g. e }
      by_parity (suc zero) b e = record { over = omega arith; under = omega arith; even_over = λ g. e; even_under = λ g. e }
      by_parity (suc (suc p)) b e = absurd (omega arith)

pub nearest_zero : (r c : ℕ) → 2 * r < c → IsNearest r c 0
nearest_zero r c h = let e : 0 * c + r ≡ r = omega arith in rw e at (below 0 r c h)

-- ---- the library's
abbrev Side : Ordering → ℕ → ℕ → Type 0
Side Ordering.lt a b = a < b
Side Ordering.eq a b = a ≡ b
Side Ordering.gt a b = b < a

side : (a b : ℕ) → Side (compare a b) a b
side a b = go (compare a b) (leb→le a b) (nleb→lt a b) (eqb→eq a b) (λ (e : a ≡ b). rw (sym e) (eqb_refl a))
  where
    go : (o : Ordering) → (T (is_le o) → a ≤ b) → (T (not (is_le o)) → b < a) → (T (compare_is_eq o) → a ≡ b) → (a ≡ b → T (compare_is_eq o)) → Side o a b
    go Ordering.lt h k e n = lt_of_le-ne (h tt) n
    go Ordering.eq h k e n = e tt
    go Ordering.gt h k e n = k tt

rule : (q r c : ℕ) (o : Ordering) → r < c → Side o (r * 2) c → IsNearest (q * c + r) c (nearest q o)
rule q r c Ordering.lt l h = below q r c (omega arith)
rule q r c Ordering.eq l h = tie q r c (omega arith)
rule q r c Ordering.gt l h = let e : suc q ≡ q + 1 = omega arith in rw e (above q r c (omega arith) l)

pub closest_nearest : (a c : ℕ) → 0 < c → IsNearest a c (closest a c)
closest_nearest a c h = rw (div-add-mod' a c) at (rule (a / c) (a % c) c (compare (a % c * 2) c) (mod-lt a h) (side (a % c * 2) c))

-- ---- no second one: two that differ would both be half a unit off, one of them odd
no_larger : (a c m n : ℕ) → 0 < c → IsNearest a c m → IsNearest a c n → m < n → ⊥
no_larger a c m n C M N h =
    let far = mul-le-mul_right c h in let even-m = M.even_under (omega (arith, far, M.under, N.over)) in
    let even-n = N.even_over (omega (arith, far, M.under, N.over)) in let two : m + 2 ≤ n = omega arith in
    omega (arith, mul-le-mul_right c two, M.under, N.over)

pub nearest_alone : (a c : ℕ) {m n : ℕ} → 0 < c → IsNearest a c m → IsNearest a c n → m ≡ n
nearest_alone a c {m} {n} C M N =
    let x = no_larger a c m n C M N in let y = no_larger a c n m C N M in omega arith

pub one_fits : {half k : ℕ} → half ≡ 2 ^ k → k ≤ 60 → (0 < 2 * half) × (2 * half < 2 ^ 64)
one_fits {half} {k} is most = let h : half ≤ 2 ^ 60 = rw is (pow_mono {i = k} {j = 60} most) in let g : 0 < half = rw is (pow_pos k) in (omega arith, omega arith)

module _ {m t : ℕ} (M : m < 2 ^ 61) (T : t ≤ 10 ^ 9) where
  abbrev part : ℕ
  part = m % 2 ^ 30 * t

  abbrev high : ℕ
  high = m / 2 ^ 30 * t + part / 2 ^ 30

  abbrev low : ℕ
  low = part % 2 ^ 30

  pub part_fits : part < 2 ^ 60
  part_fits = let a : m % 2 ^ 30 ≤ 2 ^ 30 - 1 = omega arith in omega (arith, mul-le-mul a T)

  pub high_fits : (m / 2 ^ 30 * t < 2 ^ 61) × (high < 2 ^ 62)
  high_fits = let a : m / 2 ^ 30 ≤ 2 ^ 31 = omega arith in let b = part_fits in (omega (arith, mul-le-mul a T), omega (arith, mul-le-mul a T))

  pub quotient_fits : (k : ℕ) → high / k < 2 ^ 63
  quotient_fits k = omega (arith, high_fits.1, div-le_self high k)

  product : m * t ≡ high * 2 ^ 30 + low
  product = omega (arith, ap (λ (z : ℕ). z * t) (div-add-mod' m (2 ^ 30)), div-add-mod' part (2 ^ 30))

  -- where j is above 30
  module _ {half j : ℕ} (is : half ≡ 2 ^ (j - 31)) (from : 30 < j) where
    pub by_high : {r : ℕ} → IsNearest (high / (2 * half) * (2 * half * 2 ^ 30) + (high % (2 * half) * 2 ^ 30 + low)) (2 * half * 2 ^ 30) r → IsNearest (m * t) (2 ^ j) r
    by_high {r} n =
        let s : j ≡ j - 31 + 31 = omega arith in let power : 2 ^ j ≡ 2 * half * 2 ^ 30 = rw is (ap (λ (z : ℕ). 2 ^ z) s ∙ pow-add 2 (j - 31) 31 ∙ omega arith) in
        let all : m * t ≡ high / (2 * half) * (2 * half * 2 ^ 30) + (high % (2 * half) * 2 ^ 30 + low) = omega (arith, product, div-add-mod' high (2 * half)) in
        rw (power, all) n

  -- where it is not
  module _ {half up j : ℕ} (is : half ≡ 2 ^ (j - 1)) (up_is : up ≡ 2 ^ (30 - j)) (from : 0 < j) (most : j ≤ 30) (few : m * t < 10 ^ 18 * 2 ^ j) where
    power : 2 ^ j ≡ 2 * half * 1
    power = let s : j ≡ j - 1 + 1 = omega arith in rw is (ap (λ (z : ℕ). 2 ^ z) s ∙ pow-add 2 (j - 1) 1 ∙ omega arith)

    both : up * (2 * half * 1) ≡ 2 ^ 30
    both = let s : 30 - j + j ≡ 30 = omega arith in rw (sym power, up_is) (sym (pow-add 2 (30 - j) j) ∙ ap (λ (z : ℕ). 2 ^ z) s)

    pub shift_fits : high * up < 10 ^ 18
    shift_fits = lt_of_mul-lt-mul_right (2 * half * 1) (omega (arith, product, few, power, ap (λ (z : ℕ). high * z) both))

    pub sum_fits : high * up + low / (2 * half) < 2 ^ 63
    sum_fits = omega (arith, shift_fits, div-le_self low (2 * half))

    pub by_low : {r : ℕ} → IsNearest ((high * up + low / (2 * half)) * (2 * half * 1) + (low % (2 * half) * 1 + 0)) (2 * half * 1) r → IsNearest (m * t) (2 ^ j) r
    by_low {r} n =
        let all : m * t ≡ (high * up + low / (2 * half)) * (2 * half * 1) + (low % (2 * half) * 1 + 0) = omega (arith, product, div-add-mod' low (2 * half), ap (λ (z : ℕ). high * z) both) in
        rw (power, all) n
