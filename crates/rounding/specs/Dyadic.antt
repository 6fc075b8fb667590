-- Numbers that a format holds exactly: whole multiples of a power of two.
use Rattle.std.specs.Prelude.{◌≡◌, ℕ, suc, ◌+◌, ◌*◌, ◌^◌, ◌≤◌, ◌<◌, Float}
use Rattle.std.specs.Float.{Format}
use Rattle.std.specs.Float.Ieee.{prec, emax, low}
use Rattle.std.specs.Float.Ieee.Scale.{overflow}
use Rattle.rounding.specs.Exact.{Num, Equal, scale, size_of, value, Number}

-- a units are a value of the format: q * 2 ^ j of them, q of at most prec digits
pub record Held (f : Format) (a : ℕ) : Type 0 where
  pub q : ℕ
  pub j : ℕ
  pub few : q < 2 ^ prec f
  pub is : a ≡ q * 2 ^ j
  pub under : a < overflow f

-- x is exactly n * 2 ^ j units, n of size B at most. Whole numbers have the grain j = low, halves low - 1.
pub record Dyad (f : Format) (x : Float) (j : ℕ) (n : Num) (B : ℕ) : Type 0 where
  pub number : Number f x
  pub is : Equal (value f x) (scale (2 ^ j) n)
  pub small : size_of n ≤ B

-- prec digits times 2 ^ j units don't overflow
abbrev pub Room : Format → ℕ → Type 0
Room f j = prec f + j ≤ low f + suc (emax f)
