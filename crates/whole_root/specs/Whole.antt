-- Whole roots, rounded to nearest: the rule of 01-scope 4.1, the same root computed, and what a root is taken of.
use Rattle.std.specs.Prelude.{ℕ, zero, suc, ◌+◌, ◌-◌, ◌*◌, ◌/◌, ◌%◌, ◌^◌, ◌<◌, cond, nat_le, nat_lt}

-- R is the whole number nearest to the root of n, and no tie: (2R - 1)^2 < 4n < (2R + 1)^2
pub record Close (n R : ℕ) : Type 0 where
  pub lower : (2 * R - 1) * (2 * R - 1) < 4 * n
  pub upper : 4 * n < (2 * R + 1) * (2 * R + 1)

-- the whole root of an n below 4 ^ i, one binary digit after the other
unfoldable pub isqrt : ℕ → ℕ → ℕ
isqrt zero n = 0
isqrt (suc i) n = let s = isqrt i (n / 4) * 2 in cond (nat_le ((s + 1) * (s + 1)) n) (s + 1) s

-- the whole number nearest to the root of such an n: one up where more is left over than the whole root
unfoldable pub nearest_root : ℕ → ℕ → ℕ
unfolding isqrt
nearest_root i n = let s = isqrt i n in cond (nat_lt s (n - s * s)) (s + 1) s

-- the 53 binary digits that a word m leads with, the first taken for 1
abbrev pub significand : ℕ → ℕ
significand m = (m % 2 ^ 63 + 2 ^ 63) / 2 ^ 11

-- doubled where u is odd: times the square of 2 ^ (u / 2) it is the significand times 2 ^ u
abbrev pub evened_of : ℕ → ℕ → ℕ
evened_of m u = significand m * 2 ^ (u % 2)
