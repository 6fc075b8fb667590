-- Floats that approximate exact numbers: sums of two, and chains of products and quotients, with one rounding more at each step.
use mathlib.Core.Path.{◌≡◌, refl, ap, ◌∙◌}
use mathlib.Core.Bool.{false}
use Prim.Native.Nat.{ℕ, zero, suc, ◌+◌, ◌-◌, ◌*◌, ◌^◌, ◌≤◌, ◌<◌}
use native.Mathlib.Nat.{mul-le-mul_right, le_of_mul-le-mul_right, mul-pos, le_trans, one-mul}
use native.Mathlib.Omega.{arith}
use lib.Dec.{T}
use lib.Pow.{pow_pos}
use lib.Ieee.{Float, Format, prec, low, fits}
use lib.Ieee.Fits.{two, two-le_pos, add-fits, mul-fits, div-fits}
use lib.Ieee.Positive.{first_pos}
use lib.Ieee.Scale.{finite}
use Rattle.float.specs.Ops.{ops}
use Rattle.rounding.specs.Exact.{Num, Equal, ◌⊞◌, ◌⊠◌, scale, size_of, signed, mag, sign, value, Number}
use Rattle.rounding.specs.Error.{Within, Rounded, AtLeast, Normal, Err, Near, Chain}
use Rattle.rounding.proofs.Num.{size_signed, size_equal, size_scale, size_product}
use Rattle.rounding.proofs.Nearest.{top_digit}
use Rattle.rounding.proofs.Value.{positive_value}
use Rattle.rounding.proofs.Operations.{div_finite}
use Rattle.rounding.proofs.Rounding.{add_rounded, mul_rounded, div_rounded}
use Rattle.rounding.proofs.Error.{err_exact, err_same, err_more, err_sum, err_product, err_round, err_size, err_change, err_within}

module _ {f : Format} {K : ℕ} {x : Float} {y : Num} {S : ℕ} where
  -- a float whose value is known, K times: no rounding yet
  pub near_exact : T (fits f x) → 0 < K → Equal (scale K (value f x)) y → size_of y ≤ S → Near f 0 K x y S
  near_exact p k e h = record { fit = p; some = k; err = err_exact (2 ^ prec f) K (value f x) y S e h }

  -- another float with the same value
  pub near_same : {c : ℕ} (z : Float) → T (fits f z) → Equal (value f z) (value f x) → Near f c K x y S → Near f c K z y S
  near_same z p e n = record { fit = p; some = n.some; err = err_same e n.err }

  -- more roundings than were made
  pub near_more : {c d : ℕ} → c ≤ d → Near f c K x y S → Near f d K x y S
  near_more h n = record { fit = n.fit; some = n.some; err = err_more h n.err }

  -- what c roundings come to: c / 2 ^ prec, and less than one more for the second order
  pub near_within : {c : ℕ} → c * (c + 1) ≤ 2 ^ prec f → Near f c K x y S → Within (2 ^ prec f) (suc c) K (value f x) y S
  near_within h n = err_within h n.err

-- ---- a lower bound on what isn't zero: a whole multiple of k is k at least, and its product with a number of size n then k * n
pub at_least_multiple : (k : ℕ) (y n : Num) → Equal y (scale k n) → AtLeast k y
at_least_multiple k y n e = rw (size_equal y (scale k n) e ∙ size_scale k n) (go (size_of n))
  where
    go : (m : ℕ) → 0 < k * m → k ≤ k * m
    go zero h = absurd (omega arith)
    go (suc m) h = omega arith

pub at_least_product : (b n : ℕ) (y v : Num) → size_of v ≡ n → AtLeast b y → AtLeast (b * n) (y ⊠ v)
at_least_product b n y v e h = rw (size_product y v, e) (λ p. mul-le-mul_right n (h (first_pos (size_of y) n p)))

-- ---- the step that a product and a quotient share: z, J times, is x v rounded
step : (f : Format) (c J K : ℕ) (x z : Float) (y v : Num) → T (fits f z) → 0 < J → Chain f c K x y → 3 * c ≤ 2 ^ prec f → AtLeast (2 ^ prec f * (J * K)) (y ⊠ v)
    → (Normal f J (value f x ⊠ v) → Rounded f J z (value f x ⊠ v)) → Chain f (suc c) (J * K) z (y ⊠ v)
step f c J K x z y v p J+ a small h rounded =
    record { fit = p; some = mul-pos J+ a.some; err = err_round (pow_pos (prec f)) (rounded normal) e }
  where
    e : Err (2 ^ prec f) c K (value f x ⊠ v) (y ⊠ v) (size_of (y ⊠ v))
    e = rw (size_product y v) (err_product v a.err)

    half : (P H W : ℕ) {Y : ℕ} → P ≡ H * 2 → P * (J * K) ≤ Y → Y ≤ 2 * (K * W) → H * J * (K * 2) ≤ W * (K * 2)
    half P H W e h k = omega (arith, ap (λ (t : ℕ). t * (J * K)) e)

    normal : Normal f J (value f x ⊠ v)
    normal w =
        let s = err_size (pow_pos (prec f)) small e (mul-pos a.some w) in
        let d : 2 ^ prec f ≡ 2 ^ (prec f - 1) * 2 = top_digit (prec f) (two-le_pos (prec f) (two f)) in
        le_of_mul-le-mul_right (half (2 ^ prec f) (2 ^ (prec f - 1)) (size_of (value f x ⊠ v)) d (h s.0) s.1) (mul-pos a.some (omega arith))

-- another scale: K / k = K' / u and y / k = y' / u
pub chain_change : {f : Format} {c K K' : ℕ} {x : Float} {y y' : Num} (u k : ℕ) → 0 < k → 0 < K' → K * u ≡ K' * k → Equal (scale u y) (scale k y')
    → Chain f c K x y → Chain f c K' x y'
chain_change u k k+ K+ e d a = record { fit = a.fit; some = K+; err = err_change u k k+ e d a.err }

module _ (f : Format) where
  open ops f use {◌⊕◌, ◌⊗◌, ◌⊘◌}

  infixl 75 ◌⊕◌
  infixl 80 ◌⊗◌ ◌⊘◌
  -- ---- THE law of a sum of two approximations
  pub add_near : {c K : ℕ} {x y : Float} {n m : Num} {S S' : ℕ} → Near f c K x n S → Near f c K y m S' → T (finite (x ⊕ y))
      → Near f (suc c) K (x ⊕ y) (n ⊞ m) (S + S')
  add_near {c} {K} {x} {y} a b t = record {
    fit = add-fits f x y;
    some = a.some;
    err = rw (one-mul K) at (err_round (pow_pos (prec f)) (add_rounded f x y a.fit b.fit t) (err_sum a.err b.err));
  }

  -- ---- THE laws of chains. The exact result is zero or at least twice the least normal number, so that the rounded one is in the normal range too.
  module _ {c K : ℕ} {x : Float} {y : Num} (z : Float) (a : Chain f c K x y) (small : 3 * c ≤ 2 ^ prec f) where
    pub mul_chain : T (fits f z) → T (finite (x ⊗ z)) → AtLeast (2 ^ prec f * (2 ^ low f * K)) (y ⊠ value f z)
        → Chain f (suc c) (2 ^ low f * K) (x ⊗ z) (y ⊠ value f z)
    mul_chain q t h = step f c (2 ^ low f) K x (x ⊗ z) y (value f z) (mul-fits f x z) (pow_pos (low f)) a small h (mul_rounded f x z a.fit q t)

    pub div_chain : Number f z → T (finite (x ⊘ z)) → AtLeast (2 ^ prec f * (mag f z * K)) (y ⊠ signed (sign z) (2 ^ low f))
        → Chain f (suc c) (mag f z * K) (x ⊘ z) (y ⊠ signed (sign z) (2 ^ low f))
    div_chain n t h = step f c (mag f z) K x (x ⊘ z) y _ (div-fits f x z) (div_finite f x z n t).1 a small h (div_rounded f x z a.fit n t)

    -- over a positive whole number d
    pub div_whole : (d : ℕ) → 0 < d → Number f z → Equal (value f z) (signed false (d * 2 ^ low f)) → T (finite (x ⊘ z)) → AtLeast (2 ^ prec f * (d * K)) y
        → Chain f (suc c) (d * K) (x ⊘ z) y
    div_whole d d+ n e t h =
        let L = 2 ^ low f in
        let L+ : 0 < L = pow_pos (low f) in
        let w = positive_value f z (d * L) (mul-pos d+ L+) e in
        let l : AtLeast (2 ^ prec f * (d * L * K)) (y ⊠ signed false L) =
        λ p. le_trans (turn (2 ^ prec f) L) (at_least_product _ L y (signed false L) (size_signed _ false L refl) h p) in
        chain_change 1 L L+ (mul-pos d+ a.some) (omega arith) (times L) (rw (w.0, w.1) at (div_chain n t (rw (w.0, w.1) l)))
      where
        times : (l : ℕ) → Equal (scale 1 (y ⊠ signed false l)) (scale l y)
        times l = omega arith

        turn : (P l : ℕ) → P * (d * l * K) ≤ P * (d * K) * l
        turn P l = omega arith
