-- Signed numbers: the size of a sum is at most the sum of the sizes, that of a product is the product; differences and products of multiples are multiples,
-- and products associate. By cases of the signs.
use mathlib.Core.Path.{◌≡◌, ap}
use mathlib.Core.Bool.{Bool, true, false}
use mathlib.Core.Logic.{◌↔◌}
use Prim.Native.Nat.{ℕ, ◌+◌, ◌*◌, ◌≤◌, ◌<◌}
use native.Mathlib.Nat.{mul-sub, mul-lt-mul_of_pos_left, lt_of_mul-lt-mul_left, le_of_lt, lt_of_not-le}
use native.Mathlib.Decide.{dec_le}
use native.Mathlib.Omega.{arith}
use lib.Ieee.{unlike}
use Rattle.rounding.specs.Exact.{Num, Equal, ◌⊞◌, ◌⊟◌, ◌⊠◌, scale, size_of, signed, Negative, OwnSize}

-- the size times P, by its two bounds
pub size_times : (a : Num) (P n : ℕ) → a.plus * P ≤ a.minus * P + n → a.minus * P ≤ a.plus * P + n → size_of a * P ≤ n
size_times a P n h k = omega (arith, mul-sub P a.plus a.minus, mul-sub P a.minus a.plus)

-- a number is its size with a sign, and has one size
pub size_signed : (a : Num) (s : Bool) (w : ℕ) → Equal a (signed s w) → size_of a ≡ w
size_signed a false w h = omega arith
size_signed a true w h = omega arith

pub size_sum : (a b c : Num) → Equal a (b ⊞ c) → size_of a ≤ size_of b + size_of c
size_sum a b c e = omega arith

pub size_difference : (a b c : Num) → Equal a (b ⊟ c) → size_of a ≤ size_of b + size_of c
size_difference a b c e = omega arith

pub size_equal : (a b : Num) → Equal a b → size_of a ≡ size_of b
size_equal a b e = omega arith

pub size_scale : (k : ℕ) (a : Num) → size_of (scale k a) ≡ k * size_of a
size_scale k a = omega (arith, mul-sub k a.plus a.minus, mul-sub k a.minus a.plus)

pub product_signed : (a b : Num) (s t : Bool) (u v : ℕ) → Equal a (signed s u) → Equal b (signed t v) → Equal (a ⊠ b) (signed (unlike s t) (u * v))
product_signed a b false false u v h g = omega (arith, ap (λ (z : ℕ). z * b.plus) h, ap (λ (z : ℕ). z * b.minus) h, ap (λ (z : ℕ). u * z) g)
product_signed a b false true u v h g = omega (arith, ap (λ (z : ℕ). z * b.plus) h, ap (λ (z : ℕ). z * b.minus) h, ap (λ (z : ℕ). u * z) g)
product_signed a b true false u v h g = omega (arith, ap (λ (z : ℕ). z * b.plus) h, ap (λ (z : ℕ). z * b.minus) h, ap (λ (z : ℕ). u * z) g)
product_signed a b true true u v h g = omega (arith, ap (λ (z : ℕ). z * b.plus) h, ap (λ (z : ℕ). z * b.minus) h, ap (λ (z : ℕ). u * z) g)

signed_size : (a : Num) → (s : Bool) × Equal a (signed s (size_of a))
signed_size a = go (dec_le a.minus a.plus)
  where
    go : Dec (a.minus ≤ a.plus) → (s : Bool) × Equal a (signed s (size_of a))
    go (yes h) = (false, omega arith)
    go (no h) = let k : a.plus ≤ a.minus = le_of_lt (lt_of_not-le h) in (true, omega arith)

pub size_product : (a b : Num) → size_of (a ⊠ b) ≡ size_of a * size_of b
size_product a b =
    let p = signed_size a in
    let q = signed_size b in
    size_signed (a ⊠ b) (unlike p.0 q.0) (size_of a * size_of b) (product_signed a b p.0 q.0 (size_of a) (size_of b) p.1 q.1)

-- what is not negative is its own size, and so is a product of two such
pub own_size : (a : Num) → (Negative a → ⊥) → OwnSize a
own_size a h = omega (arith, lt_of_not-le h)

pub own_product : (a b : Num) → OwnSize a → OwnSize b → OwnSize (a ⊠ b)
own_product a b h k = rw (size_product a b) (product_signed a b false false (size_of a) (size_of b) h k)

-- the sign of a number is that of its multiples
pub negative_multiple : (k : ℕ) (a b : Num) → 0 < k → Equal (scale k a) b → Negative a ↔ Negative b
negative_multiple k a b k+ e = ((λ h. omega (arith, mul-lt-mul_of_pos_left h k+)), λ h. lt_of_mul-lt-mul_left k (omega (arith, h)))

-- a difference and a product of multiples
pub difference_scale : (a b n m : Num) (l : ℕ) → Equal a (scale l n) → Equal b (scale l m) → Equal (a ⊟ b) (scale l (n ⊟ m))
difference_scale a b n m l h k = omega arith

pub product_scale : (a b n m : Num) (p q : ℕ) → Equal a (scale p n) → Equal b (scale q m) → Equal (a ⊠ b) (scale (p * q) (n ⊠ m))
product_scale a b n m p q e d =
    omega (
      arith,
      ap (λ (z : ℕ). z * b.plus) e,
      ap (λ (z : ℕ). z * b.minus) e,
      ap (λ (z : ℕ). p * n.plus * z) d,
      ap (λ (z : ℕ). p * n.minus * z) d,
    )

num_is : (a b : Num) → a.plus ≡ b.plus → a.minus ≡ b.minus → a ≡ b
num_is a b p q = λ i. record { plus = p i; minus = q i }

pub product_assoc : (a b c : Num) → a ⊠ b ⊠ c ≡ a ⊠ (b ⊠ c)
product_assoc a b c = num_is (a ⊠ b ⊠ c) (a ⊠ (b ⊠ c)) (omega arith) (omega arith)
