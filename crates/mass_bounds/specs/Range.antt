-- The panels that 01-scope 6.2 speaks of, by plain tests of their numbers. A float's exact value is counted in units of 2 ^ -low (`mag`, `sign`).
use Rattle.std.specs.Prelude.{Bool, not, ◌&&◌, List, ℕ, ◌*◌, ◌^◌, leb, Float}
use Rattle.std.specs.Float.{Format}
use Rattle.float.specs.Lists.{every}
use Rattle.rounding.specs.Exact.{mag, sign}
use Rattle.rounding.specs.Whole.{unit, is_number, is_whole_up_to}
use Rattle.places.specs.Plane.{point_at}

-- either side of zero
abbrev pub largest_coordinate : ℕ
largest_coordinate = 1048576

-- density and thickness lie from 1 over it to it
abbrev pub largest_factor : ℕ
largest_factor = 2 ^ 40

module _ (f : Format) where
  -- from 1 / R to R
  unfoldable pub between : (R : ℕ) (x : Float) → Bool
  between R x = is_number f x && not (sign x) && leb (unit f) (R * mag f x) && leb (mag f x) (R * unit f)

  -- both coordinates of vertex i
  abbrev pub whole_at : (B : ℕ) (vtx2xy : List Float) (i : ℕ) → Bool
  whole_at B vtx2xy i = let p = point_at vtx2xy i in is_whole_up_to f B p.x && is_whole_up_to f B p.y

  -- density, thickness, and the coordinates of every vertex that is named
  unfoldable pub in_range : (B R : ℕ) (tri2vtx : List ℕ) (vtx2xy : List Float) (thick rho : Float) → Bool
  in_range B R tri2vtx vtx2xy thick rho =
      between R rho && between R thick && every (whole_at B vtx2xy) tri2vtx
