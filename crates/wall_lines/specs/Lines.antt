-- The lines that `wall` prints (docs/WALL.md), as templates with their numbers. Coordinates are in mm, masses in mg, areas in mm2: `%pk` says how many decimals of that are counted, and how many digits stand behind the point.
use Rattle.std.specs.Prelude.{cond, List, [], ◌∷◌, ℕ, ◌/◌, ◌%◌, eqb, Float}
use Rattle.std.specs.Float.{binary64}
use Rattle.std.specs.Float.Ieee.{lt, neg, of_bits}
use Rattle.float.specs.Ops.{ops}
use Rattle.float.specs.Text.{ascii}
use Rattle.root.specs.Root.{root_of}
use Rattle.mesh.specs.Blocks.{coordinate_of, name_of}
use Rattle.lines.specs.Filled.{count_of, IsFilled}
use Rattle.survey.specs.Survey.{points_count, triangles_count, triangle_of, extent_of, areas_of, mass_at, total_of, idle_of, row_mass_of}
use Rattle.survey.specs.declared.Extent.{Extent}
use Rattle.survey.specs.declared.Row.{Row}
use Rattle.wall_lines.specs.declared.Sheet.{Sheet}
open ops binary64 use {◌⊕◌, ◌⊖◌, ◌⊗◌, ◌⊘◌, zero as nought}

infixl 75 ◌⊕◌ ◌⊖◌
infixl 80 ◌⊗◌ ◌⊘◌
-- a buffer before, the answer, and the buffer after
abbrev pub Text : Type 1
Text = (before : List ℕ) (r : ℕ) (after : List ℕ) → Type 0

abbrev pub width_of : Extent → Float
width_of e = e.x1 ⊖ e.x0

abbrev pub height_of : Extent → Float
height_of e = e.y1 ⊖ e.y0

-- THE statement of `head`
abbrev pub IsHead : (points cells : List ℕ) (sheet : Sheet) (mass : List Float) → Text
IsHead points cells sheet mass =
    IsFilled
    (ascii "points      %0000\ntriangles   %0000\nwidth       %3300 mm\nheight      %3300 mm\narea        %0600 m2\ndensity     %3300 kg/m3\nthickness   %9600 mm\nyoung       %0600 MPa\npoisson     %6600\nmass        %0600 kg\nidle        %0000 points\n")
    (count_of (points_count points) ∷ count_of (triangles_count cells) ∷ width_of (extent_of points) ∷ height_of (extent_of points) ∷ areas_of points cells
    ∷ sheet.density ∷ sheet.thickness ∷ sheet.young ∷ sheet.poisson ∷ total_of mass ∷ count_of (idle_of mass) ∷ [])

-- what the lines of a point say
abbrev pub point_numbers : (points : List ℕ) (mass : List Float) (i : ℕ) → List Float
point_numbers points mass i = count_of i ∷ coordinate_of points i 0 ∷ coordinate_of points i 1 ∷ mass_at mass i ∷ []

-- THE statements of `row`, `together` and `point`
abbrev pub IsRow : (points : List ℕ) (mass : List Float) (i : ℕ) → Text
IsRow points mass i = IsFilled (ascii "%0008 %3315 %3315 %0615\n") (point_numbers points mass i)

abbrev pub IsTogether : (points : List ℕ) (mass : List Float) (row : Row) → Text
IsTogether points mass row = IsFilled (ascii "together                                 %0615\n") (row_mass_of points mass row ∷ [])

abbrev pub IsPoint : (points : List ℕ) (mass : List Float) (i : ℕ) → Text
IsPoint points mass i = IsFilled (ascii "%0000\t%3300\t%3300\t%3600\n") (point_numbers points mass i)

-- 2, 4, 16, 64 and 0.75
abbrev two : Float
two = of_bits binary64 0x4000_0000_0000_0000

abbrev four : Float
four = of_bits binary64 0x4010_0000_0000_0000

abbrev sixteen : Float
sixteen = of_bits binary64 0x4030_0000_0000_0000

abbrev sixty_four : Float
sixty_four = of_bits binary64 0x4050_0000_0000_0000

abbrev three_quarters : Float
three_quarters = of_bits binary64 0x3fe8_0000_0000_0000

-- the edge around a picture
unfoldable pub edge_of : Extent → Float
edge_of e = (width_of e ⊕ height_of e) ⊘ sixteen

-- THE statement of `svg`
abbrev pub IsSvg : Extent → Text
IsSvg e =
    let d = edge_of e in
    IsFilled
    (ascii "<svg xmlns=\"http://www.w3.org/2000/svg\" viewBox=\"%3300 %3300 %3300 %3300\" font-family=\"sans-serif\" font-size=\"%3300\" text-anchor=\"middle\">\n<path fill=\"none\" stroke=\"black\" stroke-width=\"%3300\" stroke-linejoin=\"round\" d=\"\n")
    (neg d ∷ neg d ∷ width_of e ⊕ two ⊗ d ∷ height_of e ⊕ two ⊗ d ∷ d ⊘ four ∷ d ⊘ sixty_four ∷ [])

-- THE statement of `outline`
abbrev pub IsOutline : (points cells : List ℕ) (e : Extent) (t : ℕ) → Text
IsOutline points cells e t =
    let p = triangle_of points cells t in
    IsFilled (ascii "M%3300 %3300L%3300 %3300L%3300 %3300Z\n") (p.p0.x ⊖ e.x0 ∷ e.y1 ⊖ p.p0.y ∷ p.p1.x ⊖ e.x0 ∷ e.y1 ⊖ p.p1.y ∷ p.p2.x ⊖ e.x0 ∷ e.y1 ⊖ p.p2.y ∷ [])

-- the radius of a dot whose area goes by its mass
unfoldable pub radius_of : (mass total d : Float) → Float
radius_of mass total d = cond (lt nought total) (root_of binary64 (mass ⊘ total) ⊗ (d ⊘ two)) nought

-- THE statement of `dot`
abbrev pub IsDot : (points : List ℕ) (mass : List Float) (e : Extent) (total : Float) (i : ℕ) → Text
IsDot points mass e total i =
    IsFilled (ascii "<circle cx=\"%3300\" cy=\"%3300\" r=\"%3300\"/>\n") (coordinate_of points i 0 ⊖ e.x0 ∷ e.y1 ⊖ coordinate_of points i 1 ∷ radius_of (mass_at mass i) total (edge_of e) ∷ [])

-- THE statement of `sizes`
abbrev pub IsSizes : (e : Extent) (total : Float) → Text
IsSizes e total =
    let d = edge_of e in
    IsFilled
    (ascii "</g>\n<text x=\"%3300\" y=\"%3300\">%3300 mm</text>\n<text transform=\"translate(%3300 %3300) rotate(-90)\">%3300 mm</text>\n<text x=\"%3300\" y=\"%3300\" text-anchor=\"end\">%0600 kg</text>\n</svg>\n")
    (width_of e ⊘ two ∷ height_of e ⊕ d ⊗ three_quarters ∷ width_of e ∷ neg (d ⊘ two) ∷ height_of e ⊘ two ∷ height_of e ∷ width_of e ⊕ d ⊗ three_quarters ∷ neg (d ⊘ two) ∷ total ∷ [])

-- coordinate 0, 1 or 2
abbrev pub outside_template : (axis : ℕ) → List ℕ
outside_template axis =
    cond (eqb axis 0)
    (ascii "the x of point %0000 is not between -1000000000 and 1000000000\n")
    (cond (eqb axis 1)
    (ascii "the y of point %0000 is not between -1000000000 and 1000000000\n")
    (ascii "the z of point %0000 is not between -1000000000 and 1000000000\n"))

-- THE statements of `outside`, `off_plane` and `turned`
abbrev pub IsOutside : (k : ℕ) → Text
IsOutside k = IsFilled (outside_template (k % 3)) (count_of (k / 3) ∷ [])

abbrev pub IsOffPlane : (points : List ℕ) (i : ℕ) → Text
IsOffPlane points i = IsFilled (ascii "is not flat: point %0000 lies at z %6600 mm, point 0 at z %6600 mm\n") (count_of i ∷ coordinate_of points i 2 ∷ coordinate_of points 0 2 ∷ [])

abbrev pub IsTurned : (cells : List ℕ) (t : ℕ) → Text
IsTurned cells t = IsFilled (ascii "triangle %0000 turns right: its corners, the points %0000, %0000 and %0000, run clockwise\n") (count_of t ∷ count_of (name_of cells t 0) ∷ count_of (name_of cells t 1) ∷ count_of (name_of cells t 2) ∷ [])
