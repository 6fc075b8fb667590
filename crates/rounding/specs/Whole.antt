-- Whole numbers among the floats of a format, by plain tests of their exact values.
use Rattle.std.specs.Prelude.{Bool, ◌&&◌, ℕ, ◌*◌, ◌%◌, ◌^◌, eqb, leb, Float}
use Rattle.std.specs.Float.{Format}
use Rattle.std.specs.Float.Ieee.{low, fits}
use Rattle.std.specs.Float.Ieee.Scale.{finite}
use Rattle.rounding.specs.Exact.{mag, value}

module _ (f : Format) where
  -- the units in 1
  abbrev pub unit : ℕ
  unit = 2 ^ low f

  -- a number of the format, neither a NaN nor an infinity
  abbrev pub is_number : Float → Bool
  is_number x = fits f x && finite x

  -- a whole number, of size B at most
  unfoldable pub is_whole_up_to : (B : ℕ) (x : Float) → Bool
  is_whole_up_to B x = is_number x && eqb (mag f x % unit) 0 && leb (mag f x) (B * unit)

  -- the natural number n; a zero may have either sign
  unfoldable pub is_natural : (n : ℕ) (x : Float) → Bool
  is_natural n x = is_number x && eqb (value f x).plus (n * unit) && eqb (value f x).minus 0
