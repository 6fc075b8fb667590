-- The digit loop: after i turns s is the whole root of the leading digits of a * 4 ^ i, r is left over, and b is still to come. A turn finds the digit 0 or 1.
use Rattle.std.proofs.Common.{◌≡◌, ℕ, ◌+◌, ◌-◌, ◌*◌, ◌/◌, ◌%◌, ◌^◌, ◌<◌, ◌≤◌, ap, arith, pow-add}

pub record Turn (a i s r b : ℕ) : Type 0 where
  pub sum : (s * s + r) * 2 ^ 64 + b ≡ a * 4 ^ i
  pub left : r ≤ 2 * s
  pub window : b < 2 ^ 64
  pub small : s < 2 ^ i

module _ {a i s r b : ℕ} (t : Turn a i s r b) where
  pub turn_0 : r * 4 + b / 2 ^ 62 < s * 4 + 1 → Turn a (i + 1) (s * 2) (r * 4 + b / 2 ^ 62) (b % 2 ^ 62 * 4)
  turn_0 h = record {
    sum = omega (arith, t.sum, ap (λ (z : ℕ). a * z) (pow-add 4 i 1));
    left = omega arith;
    window = omega arith;
    small = omega (arith, t.small, pow-add 2 i 1);
  }

  pub turn_1 : s * 4 + 1 ≤ r * 4 + b / 2 ^ 62 → Turn a (i + 1) (s * 2 + 1) (r * 4 + b / 2 ^ 62 - (s * 4 + 1)) (b % 2 ^ 62 * 4)
  turn_1 h = record {
    sum = omega (arith, t.sum, ap (λ (z : ℕ). a * z) (pow-add 4 i 1));
    left = omega (arith, t.left, t.window);
    window = omega arith;
    small = omega (arith, t.small, pow-add 2 i 1);
  }
