-- What is measured of a wall, from the blocks of its file and its masses: docs/WALL.md names it. Coordinates are millimetres.
use Rattle.std.specs.Prelude.{Bool, not, ◌&&◌, cond, List, Option, ℕ, ◌+◌, ◌-◌, ◌*◌, ◌/◌, ◌%◌, eqb, ltb, Float, length, get_or, take, drop}
use Rattle.std.specs.Float.{binary64}
use Rattle.std.specs.Float.Ieee.{lt, eq, ne, neg, of_bits}
use Rattle.float.specs.Ops.{ops}
use Rattle.float.specs.Lists.{◌!◌, table, fold, total}
use Rattle.float.specs.Numbers.{big_endian}
use Rattle.rounding.specs.Whole.{is_whole_up_to}
use Rattle.rounding.specs.Range.{largest_coordinate, largest_factor, between}
use Rattle.mesh.specs.Blocks.{coordinate_of, name_of}
use Rattle.del_geo_core.specs.Tri2.{area_of, turns_right}
use Rattle.del_geo_core.specs.Tri2.{Tri2}
use Rattle.del_geo_core.specs.declared.tri2.V2.{V2}
use Rattle.survey.specs.First.{IsFirst}
use Rattle.survey.specs.declared.Axis.{Axis}
use Rattle.survey.specs.declared.Axis.TheVariants.{X, Y, Numbered}
use Rattle.survey.specs.declared.Extent.{Extent}
use Rattle.survey.specs.declared.Row.{Row}
use Rattle.survey.specs.declared.Side.{Side}
use Rattle.survey.specs.declared.Side.TheVariants.{Left, Right, Top, Bottom}
open ops binary64 use {◌⊕◌, zero}

infixl 75 ◌⊕◌
-- how many points and triangles blocks of this length hold
abbrev pub points_count : (points : List ℕ) → ℕ
points_count points = length points / 24

abbrev pub triangles_count : (cells : List ℕ) → ℕ
triangles_count cells = length cells / 16

abbrev pub point_of : (points : List ℕ) (i : ℕ) → V2
point_of points i = record { x = coordinate_of points i 0; y = coordinate_of points i 1 }

abbrev pub triangle_of : (points cells : List ℕ) (t : ℕ) → Tri2
triangle_of points cells t = record { p0 = point_of points (name_of cells t 0); p1 = point_of points (name_of cells t 1); p2 = point_of points (name_of cells t 2) }

-- between -10^9 and 10^9, the ends left out; a NaN is not
abbrev pub limit : Float
limit = of_bits binary64 0x41cd_cd65_0000_0000

abbrev pub is_inside : Float → Bool
is_inside x = lt x limit && lt (neg limit) x

-- coordinate k in file order, three to a point, is not inside; point i is in another plane than point 0; triangle t turns right
abbrev pub outside_at : (points : List ℕ) (k : ℕ) → Bool
outside_at points k = not (is_inside (coordinate_of points (k / 3) (k % 3)))

abbrev pub off_plane_at : (points : List ℕ) (i : ℕ) → Bool
off_plane_at points i = ne (coordinate_of points i 2) (coordinate_of points 0 2)

abbrev pub turned_at : (points cells : List ℕ) (t : ℕ) → Bool
turned_at points cells t = turns_right binary64 (triangle_of points cells t)

-- THE statements of `outside`, `off_plane` and `turned`
abbrev pub IsOutside : (points : List ℕ) (r : Option ℕ) → Type 0
IsOutside points r = IsFirst (points_count points * 3) (outside_at points) r

abbrev pub IsOffPlane : (points : List ℕ) (r : Option ℕ) → Type 0
IsOffPlane points r = IsFirst (points_count points) (off_plane_at points) r

abbrev pub IsTurned : (points cells : List ℕ) (r : Option ℕ) → Type 0
IsTurned points cells r = IsFirst (triangles_count cells) (turned_at points cells) r

abbrev pub smaller : (a b : Float) → Float
smaller a b = cond (lt b a) b a

abbrev pub larger : (a b : Float) → Float
larger a b = cond (lt a b) b a

abbrev pub widened : Extent → V2 → Extent
widened e p = record { x0 = smaller e.x0 p.x; x1 = larger e.x1 p.x; y0 = smaller e.y0 p.y; y1 = larger e.y1 p.y }

abbrev pub extent_at : V2 → Extent
extent_at p = record { x0 = p.x; x1 = p.x; y0 = p.y; y1 = p.y }

-- THE statement of `extent`: the smallest and the largest x and y, from point 0 on
unfoldable pub extent_of : (points : List ℕ) → Extent
extent_of points = fold widened (extent_at (point_of points 0)) (table (points_count points) (point_of points))

-- THE statement of `area`
unfoldable pub areas_of : (points cells : List ℕ) → Float
areas_of points cells = total binary64 (λ p. area_of binary64 p.p0 p.p1 p.p2) (table (triangles_count cells) (triangle_of points cells))

-- THE statement of `mass_at`: the translational mass of point i, of a buffer of three for each point; +0 where it has none
abbrev pub mass_at : (mass : List Float) (i : ℕ) → Float
mass_at mass i = cond (ltb i (length mass / 3)) (mass ! (i * 3)) zero

-- THE statement of `total_mass`
unfoldable pub total_of : (mass : List Float) → Float
total_of mass = total binary64 (mass_at mass) (table (length mass / 3) (λ i. i))

-- one more where point i has no mass
abbrev pub with_idle : (mass : List Float) (count i : ℕ) → ℕ
with_idle mass count i = cond (eq (mass_at mass i) zero) (count + 1) count

-- THE statement of `idle`
unfoldable pub idle_of : (mass : List Float) → ℕ
idle_of mass = fold (with_idle mass) 0 (table (length mass / 3) (λ i. i))

-- THE statement of `row`: the smallest or the largest x, or y, and its axis
abbrev pub row_of : Side → Extent → Row
row_of Left e = record { axis = X; value = e.x0 }
row_of Right e = record { axis = X; value = e.x1 }
row_of Top e = record { axis = Y; value = e.y1 }
row_of Bottom e = record { axis = Y; value = e.y0 }

-- which of a point's coordinates an axis is
abbrev pub index_of : Axis → ℕ
index_of X = 0
index_of Y = 1
index_of (Numbered k) = k

-- THE statement of `in_row`
abbrev pub in_row : (points : List ℕ) (row : Row) (i : ℕ) → Bool
in_row points row i = eq (coordinate_of points i (index_of row.axis)) row.value

-- the sum with what point i carries, where it is of the row
abbrev pub with_row : (points : List ℕ) (mass : List Float) (row : Row) (sum : Float) (i : ℕ) → Float
with_row points mass row sum i = cond (in_row points row i) (sum ⊕ mass_at mass i) sum

-- THE statement of `row_mass`
unfoldable pub row_mass_of : (points : List ℕ) (mass : List Float) (row : Row) → Float
row_mass_of points mass row = fold (with_row points mass row) zero (table (points_count points) (λ i. i))

abbrev pub is_whole_point : V2 → Bool
is_whole_point p = is_whole_up_to binary64 largest_coordinate p.x && is_whole_up_to binary64 largest_coordinate p.y

-- THE statement of `is_bounded`: by demand 3's own tests of single numbers (01-scope 6.2), of all points
unfoldable pub is_bounded_of : (points : List ℕ) (density thickness : Float) → Bool
is_bounded_of points density thickness =
    fold (λ ok p. ok && is_whole_point p) (between binary64 largest_factor density && between binary64 largest_factor thickness) (table (points_count points) (point_of points))

abbrev pub with_line : (file : List ℕ) (place line i : ℕ) → ℕ
with_line file place line i = cond (ltb i place && eqb (get_or file i 0) 10) (line + 1) line

-- THE statement of `line_of`: one more than there are newlines before the place
unfoldable pub line_of : (file : List ℕ) (place : ℕ) → ℕ
line_of file place = fold (with_line file place) 1 (table (length file) (λ i. i))

-- THE statement of `number_at`: four bytes, the highest first
unfoldable pub number_at : (file : List ℕ) (place : ℕ) → ℕ
number_at file place = cond (ltb (length file - place) 4) 0 (big_endian (take 4 (drop place file)))
