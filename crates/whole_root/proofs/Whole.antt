-- The nearest whole root: what the whole root leaves over decides the rounding, so that `nearest_root` has the rule; it has half the number's digits, and what it is taken of is in range.
use Rattle.std.proofs.Common.{◌≡◌, ℕ, zero, suc, ◌+◌, ◌-◌, ◌*◌, ◌/◌, ◌%◌, ◌^◌, ◌<◌, ◌≤◌, Bool, true, false, cond, not, T, ltb, leb, sym, ap, lt_of_le_of_lt, lt_irrefl, mul-le-mul, lt_of_not-le, arith, ltb→lt, leb→le, nltb→le}
use native.Mathlib.Nat.{pow-succ'}
use lib.Dec.{nleb→lt}
use Rattle.whole_root.specs.Whole.{Close, isqrt, nearest_root, significand, evened_of}

-- ---- the rounding: n is s * s + r
pub stays : (s r : ℕ) → 0 < s → r ≤ s → Close (s * s + r) s
stays s r p h =
    let e : 2 * s - 1 + 1 ≡ 2 * s = omega arith in
    record { lower = omega (arith, ap (λ (x : ℕ). x * x) e); upper = omega arith }

pub goes_up : (s r : ℕ) → s < r → r < 3 * s + 3 → Close (s * s + r) (s + 1)
goes_up s r h k =
    let e : 2 * (s + 1) - 1 ≡ 2 * s + 1 = omega arith in
    record { lower = omega (arith, ap (λ (x : ℕ). x * x) e); upper = omega arith }

-- ---- how many digits the nearest has
pub sq_lt_back : (x y : ℕ) → x * x < y * y → x < y
sq_lt_back x y h = lt_of_not-le (λ (g : y ≤ x). lt_irrefl (y * y) (lt_of_le_of_lt (mul-le-mul g g) h))

pub not_below : (H n R : ℕ) → H * H ≤ n → Close n R → H ≤ R
not_below H n R h c = omega (arith, sq_lt_back (2 * H) (2 * R + 1) (omega (arith, c.upper)))

pub not_above : (P n R : ℕ) → 0 < P → n + P ≤ P * P → Close n R → R < P
not_above P n R p h c =
    let e : 2 * P - 1 + 1 ≡ 2 * P = omega arith in
    omega (arith, sq_lt_back (2 * R - 1) (2 * P - 1) (omega (arith, c.lower, ap (λ (x : ℕ). x * x) e)))

pub root_pos : (b s r n : ℕ) → b < n → s * s + r ≡ n → r ≤ 3 * s + b → 0 < s
root_pos b zero r n h e l = omega (arith, e)
root_pos b (suc s) r n h e l = omega arith

-- ---- the whole root, and the nearest, computed
isqrt_is : (i n : ℕ) → n < 4 ^ i → (isqrt i n * isqrt i n ≤ n) × (n < (isqrt i n + 1) * (isqrt i n + 1))
unfolding isqrt
isqrt_is zero n h = (omega arith, omega arith)
isqrt_is (suc i) n h =
    let w = isqrt_is i (n / 4) (omega (arith, h, pow-succ' 4 i)) in
    let s = isqrt i (n / 4) * 2 in
    go (isqrt i (n / 4)) w.0 w.1 (leb ((s + 1) * (s + 1)) n) (leb→le ((s + 1) * (s + 1)) n) (nleb→lt ((s + 1) * (s + 1)) n)
  where
    go : (t : ℕ) → t * t ≤ n / 4 → n / 4 < (t + 1) * (t + 1) → (b : Bool) → (T b → (t * 2 + 1) * (t * 2 + 1) ≤ n) → (T (not b) → n < (t * 2 + 1) * (t * 2 + 1))
        → (cond b (t * 2 + 1) (t * 2) * cond b (t * 2 + 1) (t * 2) ≤ n) × (n < (cond b (t * 2 + 1) (t * 2) + 1) * (cond b (t * 2 + 1) (t * 2) + 1))
    go t l u true y x = (y tt, omega arith)
    go t l u false y x = (omega arith, x tt)

pub nearest_root_is : (i n : ℕ) → 0 < n → n < 4 ^ i → Close n (nearest_root i n)
unfolding nearest_root
nearest_root_is i n p h =
    let s = isqrt i n in
    let w = isqrt_is i n h in
    go s (n - s * s) (omega (arith, w.0)) (omega (arith, w.1)) (ltb s (n - s * s)) (ltb→lt s (n - s * s)) (nltb→le s (n - s * s))
  where
    go : (s r : ℕ) → s * s + r ≡ n → r ≤ 2 * s → (b : Bool) → (T b → s < r) → (T (not b) → r ≤ s) → Close n (cond b (s + 1) s)
    go s r e l true y x = rw (sym e) (goes_up s r (y tt) (omega arith))
    go s r e l false y x = rw (sym e) (stays s r (root_pos 0 s r n p e (omega arith)) (x tt))

-- ---- what a root is taken of: 53 digits, which doubled or not stay two below 2 ^ 54, so that there is room for the rounding
doubled : (s k : ℕ) → 2 ^ 52 ≤ s → s < 2 ^ 53 → k < 2 → (2 ^ 52 ≤ s * 2 ^ k) × (s * 2 ^ k + 2 ≤ 2 ^ 54)
doubled s zero h l b = (omega arith, omega arith)
doubled s (suc zero) h l b = (omega arith, omega arith)
doubled s (suc (suc k)) h l b = absurd (omega arith)

pub evened_range : (m u : ℕ) → (2 ^ 52 ≤ evened_of m u) × (evened_of m u + 2 ≤ 2 ^ 54)
evened_range m u = doubled (significand m) (u % 2) (omega arith) (omega arith) (omega arith)
