-- The single numbers of a panel in demand 3's range (01-scope 6.2). A float's exact value is counted in units of 2 ^ -low (`mag`, `sign`).
use Rattle.std.specs.Prelude.{Bool, not, ◌&&◌, ℕ, ◌*◌, ◌^◌, leb, Float}
use Rattle.std.specs.Float.{Format}
use Rattle.rounding.specs.Exact.{mag, sign}
use Rattle.rounding.specs.Whole.{unit, is_number}

-- either side of zero
abbrev pub largest_coordinate : ℕ
largest_coordinate = 1048576

-- density and thickness lie from 1 over it to it
abbrev pub largest_factor : ℕ
largest_factor = 2 ^ 40

-- from 1 / R to R
unfoldable pub between : (f : Format) (R : ℕ) (x : Float) → Bool
between f R x = is_number f x && not (sign x) && leb (unit f) (R * mag f x) && leb (mag f x) (R * unit f)
