-- A double in whole units of 10^-p: the number of them, and the rule that it follows, in whole numbers.
use Rattle.std.specs.Prelude.{◌≡◌, Bool, ◌&&◌, cond, ℕ, ◌+◌, ◌*◌, ◌%◌, ◌^◌, ◌≤◌, ◌<◌, leb, ltb, Float}
use Rattle.std.specs.Float.{nan, inf, fin, binary64}
use Rattle.std.specs.Float.Ieee.{up, down, of_bits}
use Rattle.std.specs.Float.Ieee.Nearest.{closest}
use Rattle.decimal.specs.declared.units.Amount.{Amount}
use Rattle.decimal.specs.declared.units.Amount.TheVariants.{Count, Large, NoNumber}

-- n is the whole number nearest to a / c: no more than half of c between n * c and a, and n is even where it is just half
pub record IsNearest (a c n : ℕ) : Type 0 where
  pub over : 2 * (n * c) ≤ 2 * a + c
  pub under : 2 * a ≤ 2 * (n * c) + c
  pub even_over : 2 * (n * c) ≡ 2 * a + c → n % 2 ≡ 0
  pub even_under : 2 * a ≡ 2 * (n * c) + c → n % 2 ≡ 0

-- ±a / c in units of 10 ^ -p: too large from 10 ^ 18 of them on, and no minus in front of 0
abbrev pub units_of_fraction : (p : ℕ) (s : Bool) (a c : ℕ) → Amount
units_of_fraction p s a c = let n = closest (a * 10 ^ p) c in cond (leb (10 ^ 18 * c) (a * 10 ^ p)) Large (Count (s && ltb 0 n) n)

unfoldable pub units_of : (p : ℕ) (x : Float) → Amount
units_of p nan = NoNumber
units_of p (inf s) = Large
units_of p (fin s m e) = units_of_fraction p s (m * up e) (down e)

-- the rule: ±m * 2 ^ e is ±a / c with a = m * up e and c = down e
abbrev pub Rule : (p : ℕ) (x : Float) → Amount → Type 0
Rule p nan r = r ≡ NoNumber
Rule p (inf s) r = r ≡ Large
Rule p (fin s m e) (Count negative n) = (m * up e * 10 ^ p < 10 ^ 18 * down e) × IsNearest (m * up e * 10 ^ p) (down e) n × (negative ≡ (s && ltb 0 n))
Rule p (fin s m e) Large = 10 ^ 18 * down e ≤ m * up e * 10 ^ p
Rule p (fin s m e) NoNumber = ⊥

-- THE statement of `units`
abbrev pub IsUnits : (p : ℕ) (x : Float) (r : Amount) → Type 0
IsUnits p x r = (r ≡ units_of p x) × Rule p x r

-- 2 ^ -31
abbrev pub tiny : Float
tiny = of_bits binary64 0x3e00_0000_0000_0000
