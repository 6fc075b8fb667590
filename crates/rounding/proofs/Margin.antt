-- Chains and sums far from both ends of a format's range. A margin M says how far: a factor between 1 / R and R uses up R of it, a divisor itself, a sum its
-- count of terms; while there is some left nothing overflows and no digits are lost.
use mathlib.Core.Path.{◌≡◌}
use mathlib.Core.Bool.{false}
use mathlib.Core.List.{List}
use Prim.Native.Nat.{ℕ, suc, ◌+◌, ◌*◌, ◌^◌, ◌≤◌, ◌<◌}
use native.Mathlib.Nat.{mul-le-mul, mul-le-mul_right, le_of_mul-le-mul_right, mul-pos, le_refl, le_trans}
use native.Mathlib.Omega.{arith}
use lib.Dec.{T}
use lib.ListN.{length}
use lib.Pow.{pow_pos}
use lib.Ieee.{Float, Format, prec, emax, low}
use lib.Ieee.Positive.{first_pos}
use lib.Ieee.Scale.{overflow, finite}
use Rattle.float.specs.Lists.{All, total}
use Rattle.float.specs.Ops.{ops}
use Rattle.float.proofs.Each.{all_map}
use Rattle.rounding.specs.Exact.{Num, ◌⊠◌, size_of, signed, mag, sign, value, Number}
use Rattle.rounding.specs.Error.{Within, AtLeast, Chain}
use Rattle.rounding.specs.Sums.{sum_of, exact_sum}
use Rattle.rounding.specs.Dyadic.{Dyad}
use Rattle.rounding.proofs.Num.{size_product}
use Rattle.rounding.proofs.Value.{size_value}
use Rattle.rounding.proofs.Chain.{at_least_product, mul_chain, div_whole}
use Rattle.rounding.proofs.Sums.{sum_within, total_fits}
use Rattle.rounding.proofs.ExactSums.{sum_most}
use Rattle.rounding.proofs.Finite.{mul_near_finite, div_whole_finite, sum_finite}

-- z is a number between 1 / R and R
pub record Between (f : Format) (R : ℕ) (z : Float) : Type 0 where
  pub number : Number f z
  pub above : sign z ≡ false
  pub least : 2 ^ low f ≤ R * mag f z
  pub most : mag f z ≤ R * 2 ^ low f

-- x, K times, is y after c roundings; M times smaller it would still be in the normal range, and M times larger far from overflow
pub record Safe (f : Format) (M c K : ℕ) (x : Float) (y : Num) : Type 0 where
  pub some : 0 < M
  pub fine : T (finite x)
  pub chain : Chain f c K x y
  pub above : AtLeast (2 ^ prec f * (M * K)) y
  pub below : size_of y * (8 * M) ≤ overflow f * K

-- what is used of a margin
no_overflow : (f : Format) (S M K : ℕ) → 0 < M → 0 < K → S * (8 * M) ≤ overflow f * K → 4 * S < overflow f * K
no_overflow f S M K m k h = go (overflow f * K) (mul-pos (pow_pos (low f + suc (emax f))) k) h
  where
    go : (X : ℕ) → 0 < X → S * (8 * M) ≤ X → 4 * S < X
    go X x h = omega (arith, mul-le-mul_right (8 * S) m)

in_normal : (P M K : ℕ) (y : Num) → 0 < M → AtLeast (P * (M * K)) y → AtLeast (P * K) y
in_normal P M K y m h p = le_trans (omega (arith, mul-le-mul_right (P * K) m)) (h p)

module _ (f : Format) where
  open ops f use {◌⊗◌, ◌⊘◌}

  infixl 80 ◌⊗◌ ◌⊘◌
  -- ---- THE laws of margins
  module _ {M c K : ℕ} {x : Float} {y : Num} (z : Float) (small : 3 * c ≤ 2 ^ prec f) where
    pub safe_mul : {R : ℕ} → Between f R z → Safe f (M * R) c K x y → Safe f M (suc c) (2 ^ low f * K) (x ⊗ z) (y ⊠ value f z)
    safe_mul {R} b s =
        let L = 2 ^ low f in
        let M+ = first_pos M R s.some in
        let above : AtLeast (2 ^ prec f * (M * (L * K))) (y ⊠ value f z) =
        λ p. le_trans (more (2 ^ prec f) L (mag f z) b.least) (at_least_product _ (mag f z) y (value f z) (size_value f z) s.above p) in
        let below = less L (size_of y) (mag f z) (overflow f) b.most s.below in
        let t = mul_near_finite f z (omega arith) s.fine s.chain b.number (no_overflow f (size_of y * mag f z) M (L * K) M+ (mul-pos (pow_pos (low f)) s.chain.some) below) in
        record {
          some = M+;
          fine = t;
          chain = mul_chain f z s.chain small b.number.fit t (in_normal _ M _ _ M+ above);
          above = above;
          below = rw (size_product y (value f z), size_value f z) below;
        }
      where
        more : (p l m : ℕ) → l ≤ R * m → p * (M * (l * K)) ≤ p * (M * R * K) * m
        more p l m h = omega (arith, mul-le-mul_right (p * M * K) h)

        less : (l n m o : ℕ) → m ≤ R * l → n * (8 * (M * R)) ≤ o * K → n * m * (8 * M) ≤ o * (l * K)
        less l n m o h k = omega (arith, mul-le-mul_right (n * 8 * M) h, mul-le-mul_right l k)

    -- over a whole number d
    pub safe_div : {d : ℕ} → 0 < d → Dyad f z (low f) (signed false d) d → Safe f (M * d) c K x y → Safe f M (suc c) (d * K) (x ⊘ z) y
    safe_div {d} d+ w s =
        let M+ = first_pos M d s.some in
        let above : AtLeast (2 ^ prec f * (M * (d * K))) y = λ p. le_trans (more (2 ^ prec f)) (s.above p) in
        let below = less (size_of y) (overflow f) s.below in
        let t = div_whole_finite f z (omega arith) s.fine s.chain d d+ w.number (omega (arith, w.is)) (no_overflow f (size_of y) M (d * K) M+ (mul-pos d+ s.chain.some) below) in
        record {
          some = M+;
          fine = t;
          chain = div_whole f z s.chain small d d+ w.number (omega (arith, w.is)) t (in_normal _ M _ _ M+ above);
          above = above;
          below = below;
        }
      where
        more : (p : ℕ) → p * (M * (d * K)) ≤ p * (M * d * K)
        more p = omega arith

        less : (n o : ℕ) → n * (8 * (M * d)) ≤ o * K → n * (8 * M) ≤ o * (d * K)
        less n o h = omega (arith, mul-le-mul_right (n * 8 * M) d+, mul-le-mul_right (o * K) d+)

  -- of no more terms than the margin, roundings counted
  module _ {A : Type 0} (g : A → Float) (c K : ℕ) (y : A → Num) (M : ℕ) (l : List A) (terms : All (λ a. Safe f M c K (g a) (y a)) l) (some : 0 < K)
      (few : c + length l ≤ M) (two : 2 ≤ M) (small : M * M ≤ 2 ^ prec f) where
    abbrev size : A → ℕ
    size a = size_of (y a)

    safe_finite : T (finite (total f g l))
    safe_finite =
        sum_finite f g c K y size l (all_map (λ a s. (s.fine, s.chain)) l terms) (le_trans (twice (c + length l) few) small)
        (no_overflow f (sum_of size l) 1 K (le_refl 1) some (le_of_mul-le-mul_right
        (go (sum_of size l) (length l) (overflow f * K) (omega arith) (sum_most size (8 * M) (overflow f * K) l (all_map (λ a s. s.below) l terms))) M+))
      where
        M+ : 0 < M
        M+ = omega arith

        twice : (n : ℕ) → n ≤ M → 2 * n ≤ M * M
        twice n h = omega (arith, mul-le-mul_right M two)

        go : (s n X : ℕ) → n ≤ M → s * (8 * M) ≤ n * X → s * (8 * 1) * M ≤ X * M
        go s n X h k = omega (arith, mul-le-mul_right X h)

    pub safe_sum : Number f (total f g l) × Within (2 ^ prec f) (c + length l) K (value f (total f g l)) (exact_sum y l) (sum_of size l)
    safe_sum = (
      record { fit = total_fits f g l; fine = safe_finite },
      sum_within f g c K y size l (all_map (λ a s t. s.chain) l terms) safe_finite (le_trans (mul-le-mul few few) small),
    )
