-- Leading zeros and digits make 64, so that z more places bring the first digit to the top, and what m gains u loses.
use mathlib.Core.Path.{◌≡◌, refl, sym, ap, ◌∙◌}
use Prim.Native.Nat.{ℕ, suc, ◌+◌, ◌-◌, ◌*◌, ◌%◌, ◌^◌, ◌≤◌, ◌<◌}
use native.Mathlib.Nat.{le_trans, lt_of_not-le, not-le_of_lt, mul_assoc, mul-le-mul_right}
use native.Mathlib.Omega.{arith}
use lib.Count.{count_leading_zeros, leading_top}
use lib.Ieee.{binary64}
use lib.Pow.{pow-add, pow_mono, shl_lt}
use Rattle.whole_root.specs.Whole.{significand}
use Rattle.root.specs.Steps.{Unpacked}
use Rattle.root.proofs.Fields.{unpack_subnormal}
use Rattle.root.proofs.moved_up.Goals as goal

module _ (b : ℕ) (in_b : (0 < b) × (b < 2 ^ 52)) where
  -- b is from 2 ^ j up to below 2 ^ (j + 1)
  places : (j : ℕ) × (count_leading_zeros 64 b ≡ 63 - j) × (j < 52) × (2 ^ j ≤ b) × (b < 2 ^ suc j)
  places =
      let t = leading_top 64 b in_b.0 (omega (arith, in_b.1)) in
      (t.0, omega (arith, t.1), lt_of_not-le (λ (g : 52 ≤ t.0). not-le_of_lt in_b.1 (le_trans (pow_mono g) t.2)), t.2, t.3)

  -- y of the z places make 53 digits, the last 11 are zeros
  unpacked : (z : ℕ) → z ≡ count_leading_zeros 64 b → Unpacked binary64 1022 b (significand (b * 2 ^ z % 2 ^ 64)) (1033 - z)
  unpacked z e =
      let (j, zeros, few, from, below) = places in
      let y = z - 11 in
      let top : j + z ≡ 63 = omega arith in
      let all : suc j + z ≡ 64 = omega arith in
      let cut : z ≡ y + 11 = omega arith in
      let rest : y + (1033 - z) ≡ 1022 = omega arith in
      let lower : 2 ^ 63 ≤ b * 2 ^ z = rw (← pow-add 2 j z, top) at (mul-le-mul_right (2 ^ z) from) in
      let upper : b * 2 ^ z < 2 ^ 64 = rw all at (shl_lt (suc j) z below) in
      let moved : b * 2 ^ z ≡ b * 2 ^ y * 2 ^ 11 = ap (λ (k : ℕ). b * k) (ap (λ (k : ℕ). 2 ^ k) cut ∙ pow-add 2 y 11) ∙ sym (mul_assoc b (2 ^ y) (2 ^ 11)) in
      let digits : significand (b * 2 ^ z % 2 ^ 64) ≡ b * 2 ^ y = omega arith in
      rw digits (unpack_subnormal binary64 1022 b (b * 2 ^ y) (1033 - z) in_b.1 (omega arith) (omega arith) (omega arith)
      (mul_assoc b (2 ^ y) (2 ^ (1033 - z)) ∙ ap (λ (k : ℕ). b * k) (sym (pow-add 2 y (1033 - z)) ∙ ap (λ (k : ℕ). 2 ^ k) rest)))

pub returns : goal.returns
returns c = rw c.from.ensures (unpacked c.args.b c.requires _ refl)
