-- Sizes in units of 2^-10: the pattern's digits m times 2^e over 2^1075 are n / 1024 exactly where m is n * 2^(1065 - e), since both sides are one fraction.
use mathlib.Core.Path.{◌≡◌, refl, sym, ap, ◌∙◌}
use mathlib.Core.Bool.{false, true≢false}
use Rattle.std.specs.Prelude.{Some, None}
use Prim.Native.Nat.{ℕ, zero, suc, ◌+◌, ◌-◌, ◌*◌, ◌/◌, ◌%◌, ◌^◌, ◌≤◌, ◌<◌}
use native.Mathlib.Nat.{add-zero, one-mul, lt_of_not-le, mod-lt, mod-eq_of_lt, lt_of_lt_of_le, mul-pos, mul-mod_left, mul-le-mul, mul-le-mul_left, mul-le-mul_right, eq_of_mul-eq-mul_right}
use native.Mathlib.Decide.{dec_le}
use native.Mathlib.Omega.{arith}
use lib.Dec.{lit≤, lit<}
use lib.Pow.{pow-add, pow_pos, pow_mono, shl_exact, split}
use lib.Ieee.{binary64, of_bits, of_fields, odd}
use lib.Ieee.Exact.{HasValue}
use Rattle.float.proofs.Value.{rescale, fractions_agree}
use Rattle.float.proofs.Bits.{infinity_bits, above_nan}
use Rattle.float.proofs.Patterns.{subnormal_value}
use Rattle.root.proofs.Fields.{unpack_normal}
use Rattle.units.specs.Units.{InUnits, IsScaled}

-- the code's 1 << k
shifted : (k : ℕ) → k < 64 → 1 * 2 ^ k % 2 ^ 64 ≡ 2 ^ k
shifted k h = shl_exact 1 k 64 (lit< tt) (omega arith) ∙ one-mul (2 ^ k)

pub shifted_pos : (k : ℕ) → k < 64 → 0 < 1 * 2 ^ k % 2 ^ 64
shifted_pos k h = rw (shifted k h) (pow_pos k)

pub is_zero_lem : (b : ℕ) → b ≡ 0 → IsScaled b (Some 0)
unfolding of_bits of_fields odd
is_zero_lem b h = rw h (record { some = ((refl, refl), lit< tt); none = λ no. absurd (true≢false no) })

-- over plain variables: A is 2 ^ k, B is 2 ^ e, Q is 2 ^ 1075
there : (A B Q n m : ℕ) → Q ≡ A * B * 1024 → n * A ≡ m → n * Q ≡ m * B * 1024
there A B Q n m q h = rw (q, sym h) (omega arith)

back : (A B Q n m : ℕ) → 0 < B → Q ≡ A * B * 1024 → m * B * 1024 ≡ n * Q → m ≡ n * A
back A B Q n m pos q h =
    let h' : m * B * 1024 ≡ n * (A * B * 1024) = rw q at h in
    eq_of_mul-eq-mul_right (B * 1024) (mul-pos pos (lit< tt)) m (n * A) (omega (arith, h'))

too_large : (B R Q n m : ℕ) → 0 < R → R ≤ B → 2 ^ 52 ≤ m → Q ≡ R * 4096 → n < 2 ^ 50 → m * B * 1024 ≡ n * Q → ⊥
too_large B R Q n m pos most from q small h =
    let h' : m * B * 1024 ≡ n * (R * 4096) = rw q at h in
    omega (arith, pos, h', mul-le-mul from most, mul-le-mul_right R small)

too_small : (M Q n : ℕ) → 0 < M → M < Q → M ≡ n * Q → ⊥
too_small M Q zero pos below h = omega (arith, pos, h)
too_small M Q (suc n) pos below h = omega (arith, below, h)

under : (B S Q m : ℕ) → 0 < B → B ≤ S → m < 2 ^ 53 → Q ≡ S * 2 ^ 63 → m * B * 1024 < Q
under B S Q m pos most few q = rw q (omega (arith, pos, mul-le-mul few most))

module _ (b : ℕ) where
  abbrev e : ℕ
  e = b / 2 ^ 52

  abbrev m : ℕ
  m = b % 2 ^ 52 + 2 ^ 52

  m_below : m < 2 ^ 53
  m_below = let h : b % 2 ^ 52 < 2 ^ 52 = mod-lt b (lit< tt) in omega (arith, h)

  normal : (e ≡ 0 → ⊥) → b < 2047 * 2 ^ 52 → HasValue (of_bits binary64 b) false (m * 2 ^ e) (2 ^ 1075)
  normal some finite = rw (add-zero e) at (unpack_normal binary64 1 b (lit≤ tt) some finite).value

  -- 2 ^ 1075 is 2 ^ (1065 - e) times 2 ^ e times 1024
  parts : e ≤ 1065 → 2 ^ 1075 ≡ 2 ^ (1065 - e) * 2 ^ e * 1024
  parts h =
      let s : 1065 - e + e ≡ 1065 = omega arith in
      let p : 2 ^ 1065 ≡ 2 ^ (1065 - e) * 2 ^ e = sym (ap (λ (z : ℕ). 2 ^ z) s) ∙ pow-add 2 (1065 - e) e in
      pow-add 2 1065 10 ∙ ap (λ (z : ℕ). z * 1024) p

  exactly : 1013 ≤ e → e ≤ 1062 → m % 2 ^ (1065 - e) ≡ 0 → let n = m / 2 ^ (1065 - e) in InUnits b n × (n < 2 ^ 50)
  exactly from most rest =
      let k = 1065 - e in
      let whole : m / 2 ^ k * 2 ^ k ≡ m = omega (arith, split m k, rest) in
      let eight : 2 ^ 3 ≤ 2 ^ k = pow_mono {i = 3} {j = k} (omega arith) in (
        rescale (of_bits binary64 b) false (m * 2 ^ e) (2 ^ 1075) (m / 2 ^ k) 1024 (pow_pos 1075)
            (there (2 ^ k) (2 ^ e) (2 ^ 1075) (m / 2 ^ k) m (parts (omega arith)) whole) (normal (omega arith) (omega arith)),
        omega (arith, whole, mul-le-mul_left (m / 2 ^ k) eight, m_below),
      )

  not_exactly : 1013 ≤ e → e ≤ 1062 → (m % 2 ^ (1065 - e) ≡ 0 → ⊥) → (n : ℕ) → InUnits b n → ⊥
  not_exactly from most rest n is =
      let k = 1065 - e in
      let same = fractions_agree (of_bits binary64 b) false (m * 2 ^ e) (2 ^ 1075) n 1024 (normal (omega arith) (omega arith)) is in
      rest (rw (back (2 ^ k) (2 ^ e) (2 ^ 1075) n m (pow_pos e) (parts (omega arith)) same) (mul-mod_left n (2 ^ k)))

  above : 1062 < e → b < 2047 * 2 ^ 52 → (n : ℕ) → n < 2 ^ 50 → InUnits b n → ⊥
  above from finite n small is =
      too_large (2 ^ e) (2 ^ 1063) (2 ^ 1075) n m (pow_pos 1063) (pow_mono {i = 1063} {j = e} from) (omega arith) (pow-add 2 1063 12) small
      (fractions_agree (of_bits binary64 b) false (m * 2 ^ e) (2 ^ 1075) n 1024 (normal (omega arith) finite) is)

  below : (e ≡ 0 → ⊥) → e < 1013 → (n : ℕ) → InUnits b n → ⊥
  below some most n is =
      let up : 2 ^ e ≤ 2 ^ 1012 = pow_mono {i = e} {j = 1012} (omega arith) in
      let some-m : 0 < m = omega arith in
      too_small (m * 2 ^ e * 1024) (2 ^ 1075) n (mul-pos (mul-pos some-m (pow_pos e)) (lit< tt)) (under (2 ^ e) (2 ^ 1012) (2 ^ 1075) m (pow_pos e) up m_below (pow-add 2 1012 63))
      (fractions_agree (of_bits binary64 b) false (m * 2 ^ e) (2 ^ 1075) n 1024 (normal some (omega arith)) is)

  subnormal : 0 < b → b < 2 ^ 52 → (n : ℕ) → InUnits b n → ⊥
  subnormal some small n is =
      let less : b * 1 * 1024 < 2 ^ 62 = omega arith in
      too_small (b * 2 ^ 0 * 1024) (2 ^ 1074) n (omega arith) (lt_of_lt_of_le less (lit≤ tt))
      (fractions_agree (of_bits binary64 b) false (b * 2 ^ 0) (2 ^ 1074) n 1024 (subnormal_value binary64 b small) is)

  -- an infinity or a NaN
  special : 2047 * 2 ^ 52 ≤ b → b < 2 ^ 63 → (n : ℕ) → InUnits b n → ⊥
  special from small n is = go (dec_le b (2047 * 2 ^ 52))
    where
      go : Dec (b ≤ 2047 * 2 ^ 52) → ⊥
      go (yes h) = let e : b ≡ 2047 * 2 ^ 52 = omega arith in rw (e, infinity_bits binary64) at is
      go (no h) = rw (above_nan binary64 b (rw (mod-eq_of_lt small) (lt_of_not-le h))) at is

  pub too_low : 0 < b → e < 1013 → IsScaled b None
  too_low some most = record { some = tt; none = λ no n small is. by_field (dec_le (2 ^ 52) b) n is }
    where
      by_field : Dec (2 ^ 52 ≤ b) → (n : ℕ) → InUnits b n → ⊥
      by_field (yes h) n is = below (omega arith) most n is
      by_field (no h) n is = subnormal some (lt_of_not-le h) n is

  pub too_high : b < 2 ^ 63 → 1062 < e → IsScaled b None
  too_high unsigned from = record { some = tt; none = λ no n small is. by_field (dec_le (2047 * 2 ^ 52) b) n small is }
    where
      by_field : Dec (2047 * 2 ^ 52 ≤ b) → (n : ℕ) → n < 2 ^ 50 → InUnits b n → ⊥
      by_field (yes h) n small is = special h unsigned n is
      by_field (no h) n small is = above from (lt_of_not-le h) n small is

  abbrev one : ℕ
  one = 1 * 2 ^ (1065 - e) % 2 ^ 64

  pub not_whole : 1013 ≤ e → e ≤ 1062 → (m % one ≡ 0 → ⊥) → IsScaled b None
  not_whole from most rest = record { some = tt; none = λ no n small is. not_exactly from most (rw (shifted (1065 - e) (omega arith)) at rest) n is }

  pub whole : 1013 ≤ e → e ≤ 1062 → m % one ≡ 0 → IsScaled b (Some (m / one))
  whole from most rest = record {
    some = rw (shifted (1065 - e) (omega arith)) (exactly from most (rw (shifted (1065 - e) (omega arith)) at rest));
    none = λ no. absurd (true≢false no);
  }

pub ruleset cases = (is_zero_lem, too_low, too_high, not_whole, shifted_pos)
