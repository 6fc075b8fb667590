-- How errors add up. All of it is about the distance |K x - y|: what it is after a change of scale, a sum, a product, and a further rounding.
use mathlib.Core.Path.{◌≡◌, refl, ap, ◌∙◌}
use mathlib.Core.Logic.{inl, inr, ◌⊎◌}
use Prim.Native.Nat.{ℕ, zero, suc, ◌+◌, ◌-◌, ◌*◌, ◌≤◌, ◌<◌}
use native.Mathlib.Nat.{mul-le-mul_right, mul-le-mul_left, le_of_mul-le-mul_right, eq-zero-or-pos, lt_of_not-le, le_refl, mul-pos}
use native.Mathlib.Decide.{dec_le}
use native.Mathlib.Omega.{arith}
use Rattle.rounding.specs.Exact.{Num, Equal, ◌⊞◌, ◌⊟◌, ◌⊠◌, scale, size_of}
use Rattle.rounding.specs.Error.{Within, Err}
use Rattle.rounding.specs.Sums.{sum_to, exact_sum_to}
use Rattle.rounding.proofs.Num.{size_sum, size_difference, size_equal, size_scale, size_product, size_times}

-- ---- the distance
abbrev gap : ℕ → Num → Num → ℕ
gap K x y = size_of (scale K x ⊟ y)

gap_sum : (K : ℕ) (x y x' y' : Num) → gap K (x ⊞ x') (y ⊞ y') ≤ gap K x y + gap K x' y'
gap_sum K x y x' y' = size_sum (scale K (x ⊞ x') ⊟ (y ⊞ y')) (scale K x ⊟ y) (scale K x' ⊟ y') (omega arith)

-- by way of z
gap_through : (J K : ℕ) (x z y : Num) → gap (J * K) x y ≤ K * gap J x z + gap K z y
gap_through J K x z y = rw (size_scale K (scale J x ⊟ z)) at (size_sum (scale (J * K) x ⊟ y) (scale K (scale J x ⊟ z)) (scale K z ⊟ y) (omega arith))

-- K x is no longer than y and the distance, and y no longer than K x and the distance
gap_left : (K : ℕ) (x y : Num) → K * size_of x ≤ size_of y + gap K x y
gap_left K x y = rw (size_scale K x) at (size_sum (scale K x) y (scale K x ⊟ y) (omega arith))

gap_right : (K : ℕ) (x y : Num) → size_of y ≤ K * size_of x + gap K x y
gap_right K x y = rw (size_scale K x) at (size_difference y (scale K x) (scale K x ⊟ y) (omega arith))

gap_product : (K : ℕ) (x y v : Num) → gap K (x ⊠ v) (y ⊠ v) ≡ gap K x y * size_of v
gap_product K x y v = size_equal (scale K (x ⊠ v) ⊟ (y ⊠ v)) ((scale K x ⊟ y) ⊠ v) (omega arith) ∙ size_product (scale K x ⊟ y) v

-- K x - y over k is K' x - y' over u
gap_change : (K K' u k : ℕ) (x y y' : Num) → K * u ≡ K' * k → Equal (scale u y) (scale k y') → gap K' x y' * k ≡ gap K x y * u
gap_change K K' u k x y y' e d =
    omega (
      arith,
      size_scale k (scale K' x ⊟ y'),
      size_scale u (scale K x ⊟ y),
      size_equal (scale k (scale K' x ⊟ y')) (scale u (scale K x ⊟ y)) (omega (arith, ap (λ (z : ℕ). z * x.plus) e, ap (λ (z : ℕ). z * x.minus) e)),
    )

-- ---- THE laws of `Within`
module _ {P c K S : ℕ} {x y : Num} where
  -- a larger count of roundings
  pub within_more : {d : ℕ} → c ≤ d → Within P c K x y S → Within P d K x y S
  within_more h w = record { within = omega (arith, w.within, mul-le-mul_right S h) }

  -- another scale, or another way to write the exact number: K / k = K' / u, y / k = y' / u and S / k = S' / u
  pub within_change : {K' S' : ℕ} {y' : Num} (u k : ℕ) → 0 < k → K * u ≡ K' * k → Equal (scale u y) (scale k y') → S * u ≡ S' * k
      → Within P c K x y S → Within P c K' x y' S'
  within_change {K'} {S'} {y'} u k k+ e d s w =
      record { within = le_of_mul-le-mul_right (go (gap K x y) (gap K' x y') (gap_change K K' u k x y y' e d) w.within) k+ }
    where
      go : (g h : ℕ) → h * k ≡ g * u → g * P ≤ c * S → h * P * k ≤ c * S' * k
      go g h i j = omega (arith, ap (λ (z : ℕ). z * P) i, ap (λ (z : ℕ). z * c) s, mul-le-mul_right u j)

  -- two approximations of one number differ by at most twice the bound
  pub within_both : {x' : Num} → Within P c K x y S → Within P c K x' y S → Within P (2 * c) K x (scale K x') S
  within_both {x'} a b =
      let d = size_difference (scale K x ⊟ scale K x') (scale K x ⊟ y) (scale K x' ⊟ y) (omega arith) in
      record { within = go (gap K x y) (gap K x' y) d a.within b.within }
    where
      go : (g h : ℕ) {t : ℕ} → t ≤ g + h → g * P ≤ c * S → h * P ≤ c * S → t * P ≤ 2 * c * S
      go g h i j k = omega (arith, mul-le-mul_right P i)

  -- where one number is near two exact ones, these are not far apart
  pub within_apart : {d R : ℕ} {z : Num} → Within P c K x y S → Within P d K x z R → size_of (y ⊟ z) * P ≤ c * S + d * R
  within_apart {d} {R} {z} a b =
      go (gap K x z) (gap K x y) (size_difference (y ⊟ z) (scale K x ⊟ z) (scale K x ⊟ y) (omega arith)) a.within b.within
    where
      go : (g h : ℕ) {t : ℕ} → t ≤ g + h → h * P ≤ c * S → g * P ≤ d * R → t * P ≤ c * S + d * R
      go g h i j k = omega (arith, mul-le-mul_right P i)

  pub within_sum : {S' : ℕ} {x' y' : Num} → Within P c K x y S → Within P c K x' y' S' → Within P c K (x ⊞ x') (y ⊞ y') (S + S')
  within_sum {S'} {x'} {y'} a b = record { within = go (gap K x y) (gap K x' y') (gap_sum K x y x' y') a.within b.within }
    where
      go : (g h : ℕ) {t : ℕ} → t ≤ g + h → g * P ≤ c * S → h * P ≤ c * S' → t * P ≤ c * (S + S')
      go g h i j k = omega (arith, mul-le-mul_right P i)

-- the sum over all numbers below n
pub within_all : {P c K : ℕ} (x y : ℕ → Num) (S : ℕ → ℕ) (n : ℕ) → ((i : ℕ) → i < n → Within P c K (x i) (y i) (S i))
    → Within P c K (exact_sum_to x n) (exact_sum_to y n) (sum_to S n)
unfolding sum_to
within_all {P} x y S zero h = record { within = size_times _ P _ (omega arith) (omega arith) }
within_all x y S (suc n) h = within_sum (within_all x y S n (λ i l. h i (omega arith))) (h n (omega arith))

-- ---- the laws of `Err`. No rounding yet:
pub err_exact : (P K : ℕ) (x y : Num) (S : ℕ) → Equal (scale K x) y → size_of y ≤ S → Err P 0 K x y S
err_exact P K x y S e h = let z : gap K x y ≡ 0 = omega arith in record { bounded = h; error = rw z (omega arith) }

module _ {P c K S : ℕ} {x y : Num} where
  pub err_same : {z : Num} → Equal z x → Err P c K x y S → Err P c K z y S
  err_same {z} e h =
      record { bounded = h.bounded; error = rw (size_equal (scale K z ⊟ y) (scale K x ⊟ y) (omega (arith, ap (λ (t : ℕ). K * t) e))) h.error }

  pub err_more : {d : ℕ} → c ≤ d → Err P c K x y S → Err P d K x y S
  err_more {d} h e =
      let l : P - d ≤ P - c = omega arith in
      record { bounded = e.bounded; error = omega (arith, e.error, mul-le-mul_left (gap K x y) l, mul-le-mul_right S h) }

  -- a sum and a product with an exact number, before they are rounded
  pub err_sum : {S' : ℕ} {x' y' : Num} → Err P c K x y S → Err P c K x' y' S' → Err P c K (x ⊞ x') (y ⊞ y') (S + S')
  err_sum {S'} {x'} {y'} a b = record {
    bounded = omega (arith, size_sum (y ⊞ y') y y' refl, a.bounded, b.bounded);
    error = (within_sum (record { within = a.error }) (record { within = b.error })).within;
  }

  pub err_product : (v : Num) → Err P c K x y S → Err P c K (x ⊠ v) (y ⊠ v) (S * size_of v)
  err_product v e = record {
    bounded = rw (size_product y v) (mul-le-mul_right (size_of v) e.bounded);
    error = rw (gap_product K x y v) (go (gap K x y) (size_of v) e.error);
  }
    where
      go : (g n : ℕ) → g * (P - c) ≤ c * S → g * n * (P - c) ≤ c * (S * n)
      go g n h = omega (arith, mul-le-mul_right n h)

  -- ---- THE law of one more rounding: z is J x rounded once. Where c + 1 reaches P there is nothing to show.
  pub err_round : {J : ℕ} {z : Num} → 0 < P → Within P 1 J z x (size_of x) → Err P c K x y S → Err P (suc c) (J * K) z y S
  err_round {J} {z} P+ w e = record { bounded = e.bounded; error = go (dec_le (suc c) P) }
    where
      count : (R D E A F : ℕ) → P ≡ R + suc c → D * P ≤ 1 * A → E * (R + 1) ≤ c * S → K * A ≤ S + E → F ≤ K * D + E → F * R ≤ suc c * S
      count R D E A F e d i a f =
          let one : K * D * (R + 1) * P ≤ S * P = omega (arith, mul-le-mul_right (K * (R + 1)) d, mul-le-mul_right (R + 1) a, ap (λ (t : ℕ). S * t) e) in
          let new : K * D * (R + 1) ≤ S = le_of_mul-le-mul_right one P+ in
          omega (arith, mul-le-mul_right (R + 1) f)

      go : Dec (suc c ≤ P) → gap (J * K) z y * (P - suc c) ≤ suc c * S
      go (yes h) =
          let r : P - c ≡ P - suc c + 1 = omega arith in
          let sized : K * size_of x ≤ S + gap K x y = omega (arith, gap_left K x y, e.bounded) in
          count (P - suc c) (gap J z x) (gap K x y) (size_of x) (gap (J * K) z y) (omega arith) w.within (rw r at e.error) sized (gap_through J K z x y)
      go (no h) = let r : P - suc c ≡ 0 = omega (arith, lt_of_not-le h) in rw r (omega arith)

  -- K x is at most twice S
  pub err_twice : 0 < P → 2 * c ≤ P → Err P c K x y S → K * size_of x ≤ 2 * S
  err_twice P+ small e = go (gap K x y) e.error (gap_left K x y) e.bounded
    where
      go : (g : ℕ) {Y : ℕ} → g * (P - c) ≤ c * S → K * size_of x ≤ Y + g → Y ≤ S → K * size_of x ≤ 2 * S
      go g h l b =
          let q : c ≤ P - c = omega arith in
          let q+ : 0 < P - c = omega arith in
          let i : g ≤ S = le_of_mul-le-mul_right (omega (arith, mul-le-mul_right S q)) q+ in
          omega arith

  -- ---- THE law of what c roundings come to
  pub err_within : c * (c + 1) ≤ P → Err P c K x y S → Within P (suc c) K x y S
  err_within small e =
      let l : P ≡ P - c + c = omega arith in
      record { within = go (gap K x y) (P - c) l e.error (eq-zero-or-pos c) }
    where
      go : (g Q : ℕ) → P ≡ Q + c → g * Q ≤ c * S → (c ≡ 0) ⊎ (0 < c) → g * P ≤ suc c * S
      go g Q l h (inl z) = omega (arith, ap (λ (t : ℕ). g * t) l, ap (λ (t : ℕ). g * t) z, ap (λ (t : ℕ). t * S) z)
      go g Q l h (inr p) =
          let k : c * c ≤ Q = omega arith in
          let second : g * c ≤ S = le_of_mul-le-mul_right (omega (arith, mul-le-mul_left g k)) p in
          omega (arith, ap (λ (t : ℕ). g * t) l)

-- ---- an error that is measured against y itself
module _ {P c K : ℕ} {x y : Num} where
  -- y is zero only if x is, and at most twice K x
  pub err_size : 0 < P → 3 * c ≤ P → Err P c K x y (size_of y) → 0 < K * size_of x → (0 < size_of y) × (size_of y ≤ 2 * (K * size_of x))
  err_size P+ small e w+ =
      let T = P - 3 * c in
      let t : 0 < T + c = omega arith in
      let q : P - c ≡ T + c + c = omega arith in
      let h : gap K x y * (T + c + c) ≤ c * size_of y = rw q at e.error in (
        above (T + c) (gap K x y) (K * size_of x) (size_of y) t (gap_left K x y) h w+ (eq-zero-or-pos (size_of y)),
        le_of_mul-le-mul_right (half (T + c) T (gap K x y) (K * size_of x) (size_of y) refl (gap_right K x y) h) t,
      )
    where
      half : (Q T g W Y : ℕ) → Q ≡ T + c → Y ≤ W + g → g * (Q + c) ≤ c * Y → Y * Q ≤ 2 * W * Q
      half Q T g W Y q h k = omega (arith, mul-le-mul_right (Q + c) h, ap (λ (z : ℕ). z * W) q)

      above : (Q g W Y : ℕ) → 0 < Q → W ≤ Y + g → g * (Q + c) ≤ c * Y → 0 < W → (Y ≡ 0) ⊎ (0 < Y) → 0 < Y
      above Q g W Y q h k w (inl z) = absurd (omega (arith, mul-pos w q, mul-le-mul_right (Q + c) h, ap (λ (t : ℕ). t * c) z, ap (λ (t : ℕ). t * Q) z))
      above Q g W Y q h k w (inr p) = p

  -- `within_change` for such an error
  pub err_change : {K' : ℕ} {y' : Num} (u k : ℕ) → 0 < k → K * u ≡ K' * k → Equal (scale u y) (scale k y') → Err P c K x y (size_of y) → Err P c K' x y' (size_of y')
  err_change {K'} {y'} u k k+ e d h =
      let s : size_of y * u ≡ size_of y' * k = omega (arith, size_scale u y, size_scale k y', size_equal (scale u y) (scale k y') d) in
      record { bounded = le_refl (size_of y'); error = (within_change u k k+ e d s (record { within = h.error })).within }
