-- A fraction that reads n / d goes through the operations as books have it: sums keep a common denominator, in products the denominators multiply.
use mathlib.Core.Path.{◌≡◌, ap}
use mathlib.Core.Bool.{false}
use Prim.Native.Nat.{ℕ, ◌+◌, ◌*◌, ◌^◌, ◌<◌}
use native.Mathlib.Nat.{mul-pos, eq_of_mul-eq-mul_right}
use native.Mathlib.Omega.{arith}
use lib.Ieee.{Float, Format, low}
use lib.Pow.{pow_pos}
use Rattle.rounding.specs.Exact.{Num, Equal, ◌⊞◌, ◌⊟◌, ◌⊠◌, scale, signed, value, Number}
use Rattle.rounding.specs.Dyadic.{Dyad}
use Rattle.rounding.specs.Whole.{unit}
use Rattle.rounding.proofs.Num.{product_scale}
use Rattle.rounding.proofs.Whole.{number_iff}
use Rattle.green_lagrange.specs.Fraction.{Fraction, Is, ◌∕◌, ◌∔◌, ◌∸◌, ◌⋅◌, ◌÷◌, exact}

pub record Reads (p : Fraction) (n : Num) (d : ℕ) : Type 0 where
  pub some : 0 < p.bottom
  pub is : Equal (scale d p.top) (scale p.bottom n)

pub reads_sum : {p q : Fraction} {n m : Num} {d : ℕ} → Reads p n d → Reads q m d → Reads (p ∔ q) (n ⊞ m) d
reads_sum {p} {q} a b = record {
  some = mul-pos a.some b.some;
  is = omega (arith, ap (λ (z : ℕ). q.bottom * z) a.is, ap (λ (z : ℕ). p.bottom * z) b.is);
}

pub reads_minus : {p q : Fraction} {n m : Num} {d : ℕ} → Reads p n d → Reads q m d → Reads (p ∸ q) (n ⊟ m) d
reads_minus {p} {q} a b = record {
  some = mul-pos a.some b.some;
  is = omega (arith, ap (λ (z : ℕ). q.bottom * z) a.is, ap (λ (z : ℕ). p.bottom * z) b.is);
}

pub reads_product : {p q : Fraction} {n m : Num} {d e : ℕ} → Reads p n d → Reads q m e → Reads (p ⋅ q) (n ⊠ m) (d * e)
reads_product {p} {q} {n} {m} {d} {e} a b = record {
  some = mul-pos a.some b.some;
  is = omega (arith, product_scale (scale d p.top) (scale e q.top) n m p.bottom q.bottom a.is b.is);
}

pub reads_over : {p : Fraction} {n : Num} (a : ℕ) → 0 < a → Reads p n 1 → Reads (p ÷ a) n a
reads_over {p} a a+ r = record { some = mul-pos r.some a+; is = omega (arith, ap (λ (z : ℕ). a * z) r.is) }

-- k times as much, and half
pub reads_times : (k : ℕ) {p : Fraction} {n : Num} {d : ℕ} → Reads p n d → Reads ((k ∕ 1) ⋅ p) (scale k n) d
reads_times k r = record { some = omega (arith, r.some); is = omega (arith, ap (λ (z : ℕ). k * z) r.is) }

pub reads_half : {p : Fraction} {n : Num} {d : ℕ} → Reads p n d → Reads ((1 ∕ 2) ⋅ p) n (2 * d)
reads_half r = record { some = omega (arith, r.some); is = omega (arith, r.is) }

-- d / d, and 0 / d
pub reads_one : (d : ℕ) → Reads (1 ∕ 1) (signed false d) d
reads_one d = record { some = omega arith; is = omega arith }

pub reads_none : (d : ℕ) → Reads (0 ∕ 1) (signed false 0) d
reads_none d = record { some = omega arith; is = omega arith }

-- the float x is n / d
pub record Quotient (f : Format) (x : Float) (n : Num) (d : ℕ) : Type 0 where
  pub number : Number f x
  pub some : 0 < d
  pub is : Equal (scale d (value f x)) (scale (unit f) n)

module _ (f : Format) {x : Float} {n : Num} where
  -- a whole number
  pub reads_whole : {B : ℕ} → Dyad f x (low f) n B → Reads (exact f x) n 1
  reads_whole a = record { some = pow_pos (low f); is = omega (arith, a.is) }

  -- 2 ^ k units are 1 / d
  pub quotient : {k d B : ℕ} → 2 ^ k * d ≡ unit f → 0 < d → Dyad f x k n B → Quotient f x n d
  quotient {k} {d} e d+ a = record { number = a.number; some = d+; is = go (2 ^ k) (unit f) (value f x) e a.is }
    where
      go : (p u : ℕ) (v : Num) → p * d ≡ u → Equal v (scale p n) → Equal (scale d v) (scale u n)
      go p u v e h = rw (← e) (omega (arith, ap (λ (z : ℕ). d * z) h))

  -- x is the fraction q that reads as it does
  pub is_fraction : {q : Fraction} {m : Num} {d : ℕ} → Quotient f x n d → Reads q m d → Equal n m → Is f x q
  is_fraction {q} {m} {d} a r e = record {
    number = (number_iff f x).1 a.number;
    same = record {
      left = pow_pos (low f);
      right = r.some;
      is = eq_of_mul-eq-mul_right d a.some _ _ (go (value f x) q.top q.bottom (unit f) r.is a.is);
    };
  }
    where
      go : (v t : Num) (b u : ℕ) → Equal (scale d t) (scale b m) → Equal (scale d v) (scale u n) → (b * v.plus + u * t.minus) * d ≡ (u * t.plus + b * v.minus) * d
      go v t b u h k = omega (arith, ap (λ (z : ℕ). u * z) h, ap (λ (z : ℕ). b * z) k, ap (λ (z : ℕ). b * u * z) e)
