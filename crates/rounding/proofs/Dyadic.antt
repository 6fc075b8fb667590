-- Arithmetic with no error: on whole multiples of a power of two whose results have at most prec digits. Exponents add up as grains multiply.
use mathlib.Core.Path.{◌≡◌, refl, sym, ap, ◌∙◌}
use mathlib.Core.Bool.{false}
use Prim.Native.Nat.{ℕ, ◌+◌, ◌*◌, ◌^◌, ◌≤◌, ◌<◌}
use native.Mathlib.Nat.{eq_of_mul-eq-mul_right, mul-le-mul, lt_of_lt_of_le, lt_of_le_of_lt}
use native.Mathlib.Omega.{arith}
use lib.Dec.{T}
use lib.Pow.{pow-add, pow_pos, pow_mono, shl_lt}
use lib.Ieee.{Float, Format, prec, low, neg, sub}
use lib.Ieee.Fits.{reach, add-fits, mul-fits, div-fits}
use lib.Ieee.Scale.{finite}
use Rattle.float.specs.Ops.{ops}
use Rattle.rounding.specs.Exact.{Num, Equal, ◌⊞◌, ◌⊟◌, ◌⊠◌, opposite, scale, size_of, signed, mag, value}
use Rattle.rounding.specs.Error.{NearestTo}
use Rattle.rounding.specs.Dyadic.{Held, Dyad, Room}
use Rattle.rounding.proofs.Num.{size_equal, size_scale, size_sum, size_product, product_scale}
use Rattle.rounding.proofs.Value.{positive_value, opposite_value, opposite_number}
use Rattle.rounding.proofs.Operations.{add_nearest, mul_nearest, div_nearest}
use Rattle.rounding.proofs.Rounding.{nearest_exact}

pub whole_room : (f : Format) → Room f (low f)
whole_room f = omega (arith, reach f)

-- an operation whose exact result y / K is n * 2 ^ j units gives it
exactly : (f : Format) (K : ℕ) (z : Float) (y : Num) (j : ℕ) (n : Num) → NearestTo f K z y → Room f j → Equal y (scale (2 ^ j * K) n) → size_of n < 2 ^ prec f
    → T (finite z) × Equal (value f z) (scale (2 ^ j) n)
exactly f K z y j n a room e h =
    let s : size_of y ≡ size_of n * 2 ^ j * K = size_equal y (scale (2 ^ j * K) n) e ∙ size_scale (2 ^ j * K) n ∙ turn (2 ^ j) (size_of n) in
    let w : Held f (size_of n * 2 ^ j) = record { q = size_of n; j = j; few = h; is = refl; under = lt_of_lt_of_le (shl_lt (prec f) j h) (pow_mono room) } in
    let r = nearest_exact f K z y a (size_of n * 2 ^ j) s w in
    (r.0, eq_of_mul-eq-mul_right K a.some _ _ (go (2 ^ j) (value f z) r.1 e))
  where
    turn : (p s : ℕ) → p * K * s ≡ s * p * K
    turn p s = omega arith

    go : (p : ℕ) (v : Num) → Equal (scale K v) y → Equal y (scale (p * K) n) → (v.plus + p * n.minus) * K ≡ (p * n.plus + v.minus) * K
    go p v h e = omega arith

pub pow_eq : (j i k l : ℕ) → j + i ≡ k + l → 2 ^ j * 2 ^ i ≡ 2 ^ k * 2 ^ l
pow_eq j i k l e = sym (pow-add 2 j i) ∙ ap (λ (z : ℕ). 2 ^ z) e ∙ pow-add 2 k l

-- ---- THE laws of exact arithmetic
pub dyad_neg : {f : Format} {x : Float} {j : ℕ} {n : Num} {B : ℕ} → Dyad f x j n B → Dyad f (neg x) j (opposite n) B
dyad_neg {f} {x} a = record { number = opposite_number f x a.number; is = rw (opposite_value f x) (omega (arith, a.is)); small = omega (arith, a.small) }

-- the same number at another grain, written as another difference, or with another bound
pub dyad_as : {f : Format} {x : Float} {j k : ℕ} {n m : Num} {B C : ℕ} → Dyad f x j n B → Equal (scale (2 ^ j) n) (scale (2 ^ k) m) → size_of m ≤ C → Dyad f x k m C
dyad_as a e h = record { number = a.number; is = omega (arith, a.is); small = h }

module _ (f : Format) where
  open ops f use {◌⊕◌, ◌⊖◌, ◌⊗◌, ◌⊘◌}

  infixl 75 ◌⊕◌ ◌⊖◌
  infixl 80 ◌⊗◌ ◌⊘◌
  module _ {x : Float} {j : ℕ} {n : Num} {B : ℕ} where
    -- a sum and a difference, with a bound D of their own
    dyad_sum : {y : Float} {m : Num} {C D : ℕ} → Room f j → Dyad f x j n B → Dyad f y j m C → size_of (n ⊞ m) ≤ D → D < 2 ^ prec f → Dyad f (x ⊕ y) j (n ⊞ m) D
    dyad_sum {y} {m} room a b s h =
        let r = exactly f 1 (x ⊕ y) _ j (n ⊞ m) (add_nearest f x y a.number b.number) room (omega (arith, a.is, b.is)) (lt_of_le_of_lt s h) in
        record { number = record { fit = add-fits f x y; fine = r.0 }; is = r.1; small = s }

    pub dyad_difference : {y : Float} {m : Num} {C D : ℕ} → Room f j → Dyad f x j n B → Dyad f y j m C → size_of (n ⊟ m) ≤ D → D < 2 ^ prec f → Dyad f (x ⊖ y) j (n ⊟ m) D
    unfolding sub
    dyad_difference room a b s h = dyad_sum room a (dyad_neg b) s h

    pub dyad_add : {y : Float} {m : Num} {C : ℕ} → Room f j → Dyad f x j n B → Dyad f y j m C → B + C < 2 ^ prec f → Dyad f (x ⊕ y) j (n ⊞ m) (B + C)
    dyad_add {m = m} room a b h = dyad_sum room a b (omega (arith, size_sum (n ⊞ m) n m refl, a.small, b.small)) h

    pub dyad_sub : {y : Float} {m : Num} {C : ℕ} → Room f j → Dyad f x j n B → Dyad f y j m C → B + C < 2 ^ prec f → Dyad f (x ⊖ y) j (n ⊟ m) (B + C)
    unfolding sub
    dyad_sub room a b h = dyad_add room a (dyad_neg b) h

    -- the grain of a product is j + i - low, since it is in units of units
    pub dyad_mul : {y : Float} {i : ℕ} {m : Num} {C : ℕ} (k : ℕ) → j + i ≡ k + low f → Room f k → Dyad f x j n B → Dyad f y i m C → B * C < 2 ^ prec f
        → Dyad f (x ⊗ y) k (n ⊠ m) (B * C)
    dyad_mul {y} {i} {m} {C} k e room a b h =
        let s : size_of (n ⊠ m) ≤ B * C = rw (size_product n m) (mul-le-mul a.small b.small) in
        let d = rw (pow_eq j i k (low f) e) at (product_scale (value f x) (value f y) n m (2 ^ j) (2 ^ i) a.is b.is) in
        let r = exactly f (2 ^ low f) (x ⊗ y) _ k (n ⊠ m) (mul_nearest f x y a.number b.number) room d (lt_of_le_of_lt s h) in
        record { number = record { fit = mul-fits f x y; fine = r.0 }; is = r.1; small = s }

    -- over a power of two, 2 ^ i units
    pub dyad_div : {y : Float} {i C : ℕ} (k : ℕ) → j + low f ≡ k + i → Room f k → Dyad f x j n B → Dyad f y i (signed false 1) C → B < 2 ^ prec f
        → Dyad f (x ⊘ y) k n B
    dyad_div {y} {i} k e room a b h =
        let w = positive_value f y (2 ^ i) (pow_pos i) (omega (arith, b.is)) in
        let d = go (2 ^ j) (2 ^ k) (2 ^ i) (2 ^ low f) (pow_eq j (low f) k i e) a.is in
        let q = div_nearest f x y a.number b.number (rw w.1 (pow_pos i)) in
        let r = exactly f (mag f y) (x ⊘ y) _ k n q room (rw (w.0, w.1) d) (lt_of_le_of_lt a.small h) in
        record { number = record { fit = div-fits f x y; fine = r.0 }; is = r.1; small = a.small }
      where
        go : (p q r l : ℕ) → p * l ≡ q * r → Equal (value f x) (scale p n) → Equal (value f x ⊠ signed false l) (scale (q * r) n)
        go p q r l t d = rw (← t) (omega (arith, ap (λ (z : ℕ). z * l) d))
