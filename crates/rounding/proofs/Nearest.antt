-- `round` is off by half a unit of the last digit that it keeps, which is 1 / 2 ^ prec of the fraction where the format keeps all its digits.
use mathlib.Core.Path.{◌≡◌, sym, ap, ◌∙◌}
use mathlib.Core.Bool.{not}
use Prim.Native.Nat.{ℕ, suc, ◌+◌, ◌-◌, ◌*◌, ◌/◌, ◌%◌, ◌^◌, ◌≤◌, ◌<◌, compare, Ordering}
use native.Mathlib.Nat.{mul-le-mul_right, mul-pos, mod-lt, div-add-mod', le-div_iff_mul-le, le_trans, le_of_eq, pow-suc}
use native.Mathlib.Omega.{arith}
use lib.Dec.{T, is_le, compare_is_eq, leb→le, nleb→lt, eqb→eq}
use lib.Pow.{pow-add, pow_pos}
use lib.Ieee.{Format, prec, low, size, nearest}
use lib.Ieee.Digits.{size_reaches}
use lib.Ieee.Fits.{two, two-le_pos}
use lib.Ieee.Nearest.{closest}
use lib.Ieee.Order.{drop, kept}
use lib.Ieee.Scale.{grid}

-- what is used of `compare`
abbrev Side : Ordering → ℕ → ℕ → Type 0
Side Ordering.lt a b = a ≤ b
Side Ordering.eq a b = a ≡ b
Side Ordering.gt a b = b < a

side : (a b : ℕ) → Side (compare a b) a b
side a b = go (compare a b) (leb→le a b) (nleb→lt a b) (eqb→eq a b)
  where
    go : (o : Ordering) → (T (is_le o) → a ≤ b) → (T (not (is_le o)) → b < a) → (T (compare_is_eq o) → a ≡ b) → Side o a b
    go Ordering.lt h k e = h tt
    go Ordering.eq h k e = e tt
    go Ordering.gt h k e = k tt

-- x lies within E / P of n
pub record Off (P E x n : ℕ) : Type 0 where
  pub over : x * P ≤ n * P + E
  pub under : n * P ≤ x * P + E

half_unit : (q r u : ℕ) (o : Ordering) → r < u → Side o (r * 2) u → Off 2 u (nearest q o * u) (q * u + r)
half_unit q r u Ordering.lt l h = record { over = omega arith; under = omega arith }
half_unit q r u Ordering.eq l h = let k : q % 2 ≤ 1 = omega arith in record { over = omega (arith, mul-le-mul_right u k); under = omega arith }
half_unit q r u Ordering.gt l h = record { over = omega arith; under = omega arith }

closest_near : (n u : ℕ) → 0 < u → Off 2 u (closest n u * u) n
closest_near n u h = rw (div-add-mod' n u) at (half_unit (n / u) (n % u) u (compare (n % u * 2) u) (mod-lt n h) (side (n % u * 2) u))

pub top_digit : (p : ℕ) → 0 < p → 2 ^ p ≡ 2 ^ (p - 1) * 2
top_digit p h = let e : suc (p - 1) ≡ p = omega arith in ap (λ (z : ℕ). 2 ^ z) (sym e) ∙ pow-suc 2 (p - 1)

kept_near : (p n c : ℕ) → 0 < p → 0 < c → p ≤ size (n / c) → Off (2 ^ p) n (kept p n c * 2 ^ drop p n c * c) n
kept_near p n c P C N =
    let k = drop p n c in
    let j : p - 1 + k < size (n / c) = omega arith in
    let big : 2 ^ (p - 1) * 2 ^ k * c ≤ n = (le-div_iff_mul-le C).0 (le_trans (le_of_eq (sym (pow-add 2 (p - 1) k))) (size_reaches (n / c) (p - 1 + k) j)) in
    rw (top_digit p P) (go (closest n (c * 2 ^ k)) (2 ^ k) (2 ^ (p - 1)) big (closest_near n (c * 2 ^ k) (mul-pos C (pow_pos k))))
  where
    go : (q K H : ℕ) → H * K * c ≤ n → Off 2 (c * K) (q * (c * K)) n → Off (H * 2) n (q * K * c) n
    go q K H big h = record { over = omega (arith, mul-le-mul_right H h.over); under = omega (arith, mul-le-mul_right H h.under) }

pub grid_near : (f : Format) (a c : ℕ) → 0 < c → prec f ≤ size (a * 2 ^ low f / c) → Off (2 ^ prec f) (a * 2 ^ low f) (grid f a c * c) (a * 2 ^ low f)
grid_near f a c C N = kept_near (prec f) (a * 2 ^ low f) c (two-le_pos (prec f) (two f)) C N
