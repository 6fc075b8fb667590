-- Results that do not overflow. A result is at most twice the exact one, so it is finite where twice the exact size stays below what overflows;
-- and an approximation after few roundings is at most twice what it approximates, which carries that along products, quotients and sums.
use mathlib.Core.Path.{refl}
use mathlib.Core.Bool.{Bool, false}
use mathlib.Core.List.{List, [], ◌∷◌}
use Prim.Native.Nat.{ℕ, suc, ◌+◌, ◌-◌, ◌*◌, ◌^◌, ◌≤◌, ◌<◌}
use native.Mathlib.Nat.{mul-le-mul_right, le_of_mul-le-mul_right, lt_of_mul-lt-mul_right, mul-lt-mul_of_pos_right, lt_of_le_of_lt, lt_of_not-le, mul-pos}
use native.Mathlib.Decide.{dec_le}
use native.Mathlib.Omega.{arith}
use lib.Dec.{T}
use lib.Pow.{pow_pos, pow-lt}
use lib.ListN.{length}
use lib.Ieee.{Float, Format, prec, low, units, round}
use lib.Ieee.Exact.{units_val}
use lib.Ieee.Fits.{two, reach, round_is}
use lib.Ieee.Order.{drop, kept}
use lib.Ieee.Positive.{first_pos}
use lib.Ieee.Scale.{grid, overflow, finite, normal_of_rounded}
use Rattle.float.specs.Ops.{ops}
use Rattle.float.specs.Lists.{All, fold, total}
use Rattle.rounding.specs.Exact.{Num, Equal, ◌⊞◌, size_of, signed, mag, value, Number}
use Rattle.rounding.specs.Error.{NearestTo, Near}
use Rattle.rounding.specs.Sums.{sum_of}
use Rattle.rounding.proofs.Num.{size_signed, size_sum, size_product}
use Rattle.rounding.proofs.Nearest.{grid_near}
use Rattle.rounding.proofs.Value.{value_finite, size_value, positive_value}
use Rattle.rounding.proofs.Operations.{add_nearest, mul_nearest, div_nearest}
use Rattle.rounding.proofs.Error.{err_twice}
use Rattle.rounding.proofs.Chain.{near_exact, near_more, add_near}
use Rattle.rounding.proofs.Sums.{zero_number, zero_value}

-- what `round` gives is at most twice the fraction, or has few digits
round_finite : (f : Format) (s : Bool) (a c : ℕ) → 0 < c → 2 * (a * 2 ^ low f) < overflow f * c → T (finite (round f s a c))
round_finite f s a c c+ h =
    let q = kept (prec f) (a * 2 ^ low f) c in
    let k = drop (prec f) (a * 2 ^ low f) c in
    rw (round_is f s a c) (value_finite (units f s q k) s (q * 2 ^ k) (2 ^ low f) (units_val f s q k (under (dec_le (grid f a c) (2 ^ (prec f - 1))))))
  where
    most : (g n P B : ℕ) → 0 < P → g * P ≤ n * P + n → 2 * n < B → g < B
    most g n P B P+ k l = lt_of_le_of_lt (le_of_mul-le-mul_right (omega (arith, mul-le-mul_right n P+)) P+) l

    under : Dec (grid f a c ≤ 2 ^ (prec f - 1)) → grid f a c < overflow f
    under (yes g) = lt_of_le_of_lt g (pow-lt (omega (arith, two f, reach f)))
    under (no g) =
        let near = grid_near f a c c+ (normal_of_rounded f a c (lt_of_not-le g)) in
        lt_of_mul-lt-mul_right c (most (grid f a c * c) (a * 2 ^ low f) (2 ^ prec f) (overflow f * c) (pow_pos (prec f)) near.over h)

-- ---- THE law of a nearest result: finite where twice its exact size stays below what overflows
pub nearest_finite : (f : Format) (K : ℕ) (z : Float) (y : Num) → NearestTo f K z y → 2 * size_of y < overflow f * K → T (finite z)
nearest_finite f K z y n h =
    let w : 2 * n.w < overflow f * K = rw (size_signed y n.s n.w n.exact) at h in
    let L+ = pow_pos (low f) in
    rw n.is (round_finite f n.s n.w (K * 2 ^ low f) (mul-pos n.some L+) (go n.w (overflow f) (2 ^ low f) (mul-lt-mul_of_pos_right w L+)))
  where
    go : (w B L : ℕ) → 2 * w * L < B * K * L → 2 * (w * L) < B * (K * L)
    go w B L h = omega arith

-- ---- K x is at most twice what it approximates
near_size : {f : Format} {c K : ℕ} {x : Float} {y : Num} {S : ℕ} → 2 * c ≤ 2 ^ prec f → Near f c K x y S → K * mag f x ≤ 2 * S
near_size {f} {x = x} h n = rw (size_value f x) at (err_twice (pow_pos (prec f)) h n.err)

module _ (f : Format) where
  open ops f use {◌⊕◌, ◌⊗◌, ◌⊘◌, zero as nought}

  infixl 75 ◌⊕◌
  infixl 80 ◌⊗◌ ◌⊘◌
  module _ {c K : ℕ} {x : Float} {y : Num} {S : ℕ} (z : Float) (small : 2 * c ≤ 2 ^ prec f) (fine : T (finite x)) (n : Near f c K x y S) where
    pub mul_near_finite : Number f z → 4 * (S * mag f z) < overflow f * (2 ^ low f * K) → T (finite (x ⊗ z))
    mul_near_finite q h =
        nearest_finite f (2 ^ low f) (x ⊗ z) _ (mul_nearest f x z (record { fit = n.fit; fine = fine }) q)
        (rw (size_product (value f x) (value f z), size_value f x, size_value f z)
        (lt_of_mul-lt-mul_right K (go (mag f x) (mag f z) (overflow f) (2 ^ low f) (near_size small n) h)))
      where
        go : (a b O L : ℕ) → K * a ≤ 2 * S → 4 * (S * b) < O * (L * K) → 2 * (a * b) * K < O * L * K
        go a b O L k h = omega (arith, mul-le-mul_right b k)

    -- over a positive whole number d
    pub div_whole_finite : (d : ℕ) → 0 < d → Number f z → Equal (value f z) (signed false (d * 2 ^ low f)) → 4 * S < overflow f * (d * K) → T (finite (x ⊘ z))
    div_whole_finite d d+ q e h =
        let L+ = pow_pos (low f) in
        let w = positive_value f z (d * 2 ^ low f) (mul-pos d+ L+) e in
        nearest_finite f (mag f z) (x ⊘ z) _ (div_nearest f x z (record { fit = n.fit; fine = fine }) q (rw w.1 (mul-pos d+ L+)))
        (rw (w.0, w.1, size_product (value f x) (signed false (2 ^ low f)), size_value f x, size_signed _ false (2 ^ low f) refl)
        (go (mag f x) (overflow f) (2 ^ low f) L+ (near_size small n) h))
      where
        go : (a O L : ℕ) → 0 < L → K * a ≤ 2 * S → 4 * S < O * (d * K) → 2 * (a * L) < O * (d * L)
        go a O L L+ k h =
            let l : 2 * a < O * d = lt_of_mul-lt-mul_right K (omega arith) in
            omega (arith, mul-lt-mul_of_pos_right l L+)

  -- ---- a sum from left to right of finite terms, from a finite start s that is what was added so far
  module _ {A : Type 0} (g : A → Float) (c K : ℕ) (y : A → Num) (S : A → ℕ) where
    fold_finite : {d S₀ : ℕ} {n : Num} (s : Float) (l : List A) → c ≤ d → T (finite s) → Near f d K s n S₀ → All (λ a. T (finite (g a)) × Near f c K (g a) (y a) (S a)) l
        → 2 * (d + length l) ≤ 2 ^ prec f → 4 * (S₀ + sum_of S l) < overflow f * K → T (finite (fold (λ s a. s ⊕ g a) s l))
    unfolding fold sum_of
    fold_finite s [] h t e ts r o = t
    fold_finite {d = d} {S₀ = S₀} {n = n} s (a ∷ l) h t e ((u, k), ts) r o =
        let k' = near_more h k in
        let less : 2 * d ≤ 2 ^ prec f = omega arith in
        let p : Number f s = record { fit = e.fit; fine = t } in
        let q : Number f (g a) = record { fit = k.fit; fine = u } in
        let b : size_of (value f s ⊞ value f (g a)) ≤ mag f s + mag f (g a) =
        rw (size_value f s, size_value f (g a)) at (size_sum (value f s ⊞ value f (g a)) (value f s) (value f (g a)) refl) in
        let v = nearest_finite f 1 (s ⊕ g a) _ (add_nearest f s (g a) p q)
        (lt_of_mul-lt-mul_right K (go _ (mag f s) (mag f (g a)) (overflow f) (S a) (sum_of S l) b (near_size less e) (near_size less k') o)) in
        fold_finite {d = suc d} {S₀ = S₀ + S a} {n = n ⊞ y a} (s ⊕ g a) l (omega arith) v (add_near f e k' v) ts (omega arith) (omega arith)
      where
        go : (m a b O S₁ R : ℕ) → m ≤ a + b → K * a ≤ 2 * S₀ → K * b ≤ 2 * S₁ → 4 * (S₀ + (S₁ + R)) < O * K → 2 * m * K < O * 1 * K
        go m a b O S₁ R h i j o = omega (arith, mul-le-mul_right K h)

    pub sum_finite : (l : List A) → All (λ a. T (finite (g a)) × Near f c K (g a) (y a) (S a)) l → 2 * (c + length l) ≤ 2 ^ prec f → 4 * sum_of S l < overflow f * K
        → T (finite (total f g l))
    sum_finite l ts r o =
        let K+ : 0 < K = first_pos K (overflow f) (omega arith) in
        let start : Near f 0 K nought (signed false 0) 0 = near_exact (zero_number f).fit K+ (rw (zero_value f) (omega arith)) (omega arith) in
        fold_finite nought l (omega arith) (zero_number f).fine (near_more (omega arith) start) ts r (omega arith)
