-- Which numbers are printed as decimals: whole multiples of 2^-10 of size below 2^40.
use Rattle.std.specs.Prelude.{false, ℕ, ◌^◌, ◌<◌, Option, IfSome, IsNone}
use Rattle.std.specs.Float.{binary64}
use Rattle.std.specs.Float.Ieee.{of_bits}
use Rattle.std.specs.Float.Ieee.Exact.{HasValue}

-- the pattern b stands for n / 1024
abbrev pub InUnits : (b n : ℕ) → Type 0
InUnits b n = HasValue (of_bits binary64 b) false n 1024

-- THE statement of `scaled`: the number n where b stands for n whole units, fewer than 2 ^ 50, and none where it stands for no such number of them
pub record IsScaled (b : ℕ) (r : Option ℕ) : Type 0 where
  pub some : IfSome r (λ n. InUnits b n × (n < 2 ^ 50))
  pub none : IsNone r → (n : ℕ) → n < 2 ^ 50 → InUnits b n → ⊥
