-- The marked examples of 01-scope 7, in its order: what the definitions that the contracts cite give, beside what 01-scope says. Doubles stand as words, so that the sign of a
-- zero and the bits of the NaN count.
use Rattle.refusal.specs.Answers.{EnergyGiven}
use Rattle.std.specs.Prelude.{◌≡◌, List, [], ◌∷◌, map, ℕ, ◌*◌, Float, replicate}
use Rattle.std.specs.Float.{binary64}
use Rattle.float.specs.Lists.{◌!◌, total}
use Rattle.root.specs.Root.{root_word_of}
use Rattle.material.specs.Material.{lame_of, stock_sheet}
use Rattle.material.specs.declared.LamePair.{LamePair}
use Rattle.material.specs.declared.Stiffness.{Stiffness}
use Rattle.material.specs.declared.Stiffness.TheVariants.{Lame}
use Rattle.corners.specs.Plane as plane
use Rattle.corners.specs.Space as space
use Rattle.del_geo_core.specs.Tri2.{signed_area_of}
use Rattle.del_geo_core.specs.Tri2.{Tri2}
use Rattle.del_geo_core.specs.declared.tri2.Turn.{Turn}
use Rattle.del_geo_core.specs.declared.tri2.Turn.TheVariants.{Left, Right, Flat}
use Rattle.del_geo_core.specs.Tri3.{Tri3}
use Rattle.mitc_tri3.specs.Example.{points, thick, rho}
use Rattle.mitc_tri3.specs.Masses.{number_of, buffer_of}
use Rattle.mitc_tri3.specs.Plate.{plate_of}
use Rattle.stvk_tri3.specs.Strain.{StrainGiven}
use Rattle.stvk_tri3.specs.Example.{at_rest, pulled}
use Rattle.stvk_tri3.specs.GreenLagrange.{green_lagrange_of}
use Rattle.stvk_tri3.specs.Strain as strain
use Rattle.stvk_tri3.specs.Stvk.{stvk_of}
use Rattle.quadratic_bending.specs.Bending.{BendingGiven}
use Rattle.quadratic_bending.specs.Bending as bending
use Rattle.examples.specs.Words.{double, doubles, word, words, +0, +1, +2, +3, +4, +6, +7, +12, +24, +72, -0, -1, -2, -3}

-- what is given, and what 01-scope says
pub record Row : Type 0 where
  pub given : List ℕ
  pub said : List ℕ

-- row by row, what is given is what is said
abbrev pub Hold : List Row → Type 0
Hold rows = map (λ row. row.given) rows ≡ map (λ row. row.said) rows

infix 68 ◌is◌
abbrev ◌is◌ : List ℕ → List ℕ → Row
given is said = record { given = given; said = said }

-- 1 to 4: four points, density 2, thickness 1, and a buffer of sevens on entry
abbrev sevens : List ℕ
sevens = replicate 12 +7

abbrev buffer_after : (names : List ℕ) → List Float
buffer_after names = buffer_of binary64 names points thick rho (doubles sevens)

-- the number, and the buffer on return; entries that the examples leave out are by 01-scope 5.3
abbrev masses : (names : List ℕ) → List ℕ
masses names = number_of binary64 names points thick rho (doubles sevens) ∷ words (buffer_after names)

-- the translational masses, added from +0 in the vertices' order
abbrev sum_after : (names : List ℕ) → Float
sum_after names = total binary64 (λ v. buffer_after names ! (v * 3)) (0 ∷ 1 ∷ 2 ∷ 3 ∷ [])

-- the largest finite double
abbrev largest : ℕ
largest = 0x7fef_ffff_ffff_ffff

abbrev root : ℕ → List ℕ
root x = root_word_of binary64 x ∷ []

-- that of 8 and 9: lambda 0, myu 1
abbrev pub stiffness : Stiffness
stiffness = Lame (double +0) (double +1)

-- the triangle of 8 and 10
abbrev pub p : Tri2
p = plane.corners_of (doubles (+0 ∷ +0 ∷ []) ∷ doubles (+1 ∷ +0 ∷ []) ∷ doubles (+0 ∷ +1 ∷ []) ∷ [])

-- 8, only corner 1 is moved in z: of its three numbers in u the first is the displacement, the others turn it
abbrev pub u : Tri3
u = space.corners_of (doubles (+0 ∷ +0 ∷ +0 ∷ []) ∷ doubles (+1 ∷ +0 ∷ +0 ∷ []) ∷ doubles (+0 ∷ +0 ∷ +0 ∷ []) ∷ [])

unfoldable pub plate : (thk : ℕ) → EnergyGiven
plate thk = plate_of binary64 p u (double thk) stiffness

-- the sheet of 9 at rest in space, and pulled to twice its length in x, as in 10
abbrev pub p0 : Tri3
p0 = space.corners_of (doubles (+0 ∷ +0 ∷ +0 ∷ []) ∷ doubles (+1 ∷ +0 ∷ +0 ∷ []) ∷ doubles (+0 ∷ +1 ∷ +0 ∷ []) ∷ [])

abbrev pub p1 : Tri3
p1 = space.corners_of (doubles (+0 ∷ +0 ∷ +0 ∷ []) ∷ doubles (+2 ∷ +0 ∷ +0 ∷ []) ∷ doubles (+0 ∷ +1 ∷ +0 ∷ []) ∷ [])

unfoldable pub stvk : EnergyGiven
stvk = stvk_of binary64 p0 p1 stiffness

abbrev strains : StrainGiven
strains = strain.ported_of binary64 p p1

-- 14 and 15: both strains of one sheet
abbrev ported : StrainGiven
ported = strain.ported_of binary64 (plane.corners_of at_rest) (space.corners_of pulled)

abbrev book : StrainGiven
book = green_lagrange_of binary64 (plane.corners_of at_rest) (space.corners_of pulled)

abbrev bends : BendingGiven
bends =
    let origin = doubles (+0 ∷ +0 ∷ +0 ∷ []) in
    let ini = doubles (+0 ∷ +2 ∷ +0 ∷ []) ∷ doubles (+0 ∷ -2 ∷ +0 ∷ []) ∷ origin ∷ doubles (+2 ∷ +0 ∷ +0 ∷ []) ∷ [] in
    let def = doubles (+0 ∷ +0 ∷ +1 ∷ []) ∷ origin ∷ origin ∷ origin ∷ [] in
    bending.answer_of binary64 (bending.corners_of ini) (bending.corners_of def)

-- 16: what `Material::STOCK_SHEET` is proved to be
abbrev stock : LamePair
stock = lame_of binary64 (stock_sheet binary64).stiffness

-- 17 to 19: the area's word, and the turn as a number of its own
abbrev left : ℕ
left = 0

abbrev right : ℕ
right = 1

abbrev flat : ℕ
flat = 2

abbrev turn_number : Turn → ℕ
turn_number Left = left
turn_number Right = right
turn_number Flat = flat

-- of (0,0), (x1,y1), (x2,y2)
abbrev area : (x1 y1 x2 y2 : ℕ) → List ℕ
area x1 y1 x2 y2 =
    let p = plane.corners_of (doubles (+0 ∷ +0 ∷ []) ∷ doubles (x1 ∷ y1 ∷ []) ∷ doubles (x2 ∷ y2 ∷ []) ∷ []) in
    let signed = signed_area_of binary64 p.p0 p.p1 p.p2 in
    word signed.area ∷ turn_number signed.turn ∷ []

-- the table, over the answers of 8 at thickness 2 and 0 and that of 9
unfoldable pub table_of : (plate2 plate0 stvk : EnergyGiven) → List Row
table_of plate2 plate0 stvk =
    -- 1. names 0 1 2: vertices 0, 1, 2: 12, 1, 1 each; vertex 3: 0, 0, 0
    masses (0 ∷ 1 ∷ 2 ∷ []) is (0
    ∷ +12 ∷ +1 ∷ +1
    ∷ +12 ∷ +1 ∷ +1
    ∷ +12 ∷ +1 ∷ +1
    ∷ +0 ∷ +0 ∷ +0 ∷ [])
    -- 2. names 0 2 1: number 6
    ∷ masses (0 ∷ 2 ∷ 1 ∷ []) is (6 ∷ sevens)
    -- 3. names 0 1 2 1 3 2: translational masses 12, 24, 24, 12, together 72
    ∷ masses (0 ∷ 1 ∷ 2 ∷ 1 ∷ 3 ∷ 2 ∷ []) is (0
    ∷ +12 ∷ +1 ∷ +1
    ∷ +24 ∷ +2 ∷ +2
    ∷ +24 ∷ +2 ∷ +2
    ∷ +12 ∷ +1 ∷ +1 ∷ [])
    ∷ (word (sum_after (0 ∷ 1 ∷ 2 ∷ 1 ∷ 3 ∷ 2 ∷ [])) ∷ []) is (+72 ∷ [])
    -- 4. no names: twelve zeros; four names: number 1; a name 4: number 2; a name 3: accepted
    ∷ masses [] is (0 ∷ replicate 12 +0)
    ∷ masses (0 ∷ 1 ∷ 2 ∷ 3 ∷ []) is (1 ∷ sevens)
    ∷ masses (0 ∷ 1 ∷ 4 ∷ []) is (2 ∷ sevens)
    ∷ masses (0 ∷ 1 ∷ 3 ∷ []) is (0
    ∷ +12 ∷ +1 ∷ +1
    ∷ +12 ∷ +1 ∷ +1
    ∷ +0 ∷ +0 ∷ +0
    ∷ +12 ∷ +1 ∷ +1 ∷ [])
    -- 5. root of 4 is 2; of 2
    ∷ root +4 is (+2 ∷ [])
    ∷ root +2 is (0x3ff6_a09e_667f_3bcd ∷ [])
    -- 6. root of 2^-1074 is 2^-537; of the largest finite double
    ∷ root 0x1 is (0x1e60_0000_0000_0000 ∷ [])
    ∷ root largest is (0x5fef_ffff_ffff_ffff ∷ [])
    -- 7. root of -0 is -0; of -1 the NaN
    ∷ root -0 is (-0 ∷ [])
    ∷ root -1 is (0x7ff8_0000_0000_0000 ∷ [])
    -- 8. plate: energy 2; the same at thickness 0: number 4
    ∷ (plate2.number ∷ word plate2.w ∷ []) is (0 ∷ +2 ∷ [])
    ∷ (plate0.number ∷ word plate0.w ∷ []) is (4 ∷ +0 ∷ [])
    -- 9. StVK: energy 1.125, gradient in x -3, 3, 0
    ∷ (stvk.number ∷ words (stvk.w ∷ stvk.dw ! 0 ∷ stvk.dw ! 3 ∷ stvk.dw ! 6 ∷ [])) is (0 ∷ 0x3ff2_0000_0000_0000 ∷ -3 ∷ +3 ∷ +0 ∷ [])
    -- 10. the strain of that pair: 1.5, 0, 0
    ∷ (strains.number ∷ words strains.w) is (0 ∷ 0x3ff8_0000_0000_0000 ∷ +0 ∷ +0 ∷ [])
    -- 11. bending: third value
    ∷ (bends.number ∷ word (bends.w ! 2) ∷ []) is (0 ∷ 0xbfeb_b67a_e858_4caa ∷ [])
    -- 14. the strain of a sheet of length 2, pulled to 4: 6, 0, 0
    ∷ (ported.number ∷ words ported.w) is (0 ∷ +6 ∷ +0 ∷ +0 ∷ [])
    -- 15. the book's strain of that pair: 1.5, 0, 0
    ∷ (book.number ∷ words book.w) is (0 ∷ 0x3ff8_0000_0000_0000 ∷ +0 ∷ +0 ∷ [])
    -- 16. the stock sheet's lambda and myu
    ∷ words (stock.lambda ∷ stock.myu ∷ []) is (0x41c9_9999_9999_999a ∷ 0x41c9_9999_9999_999a ∷ [])
    -- 17. the area and the turn of a triangle with corner 0 in the origin: left, right
    ∷ area +1 +0 +0 +1 is (0x3fe0_0000_0000_0000 ∷ left ∷ [])
    ∷ area +0 +1 +1 +0 is (0xbfe0_0000_0000_0000 ∷ right ∷ [])
    -- 18. of twice the area 2^-1074 and -2^-1074, halved to a zero of either sign: flat
    ∷ area 0x1 +0 +0 +1 is (+0 ∷ flat ∷ [])
    ∷ area +0 +1 0x1 +0 is (-0 ∷ flat ∷ [])
    -- 19. of an area that overflows to either infinity, and of one that is no number: left, right, flat
    ∷ area largest +0 +0 largest is (0x7ff0_0000_0000_0000 ∷ left ∷ [])
    ∷ area +0 largest largest +0 is (0xfff0_0000_0000_0000 ∷ right ∷ [])
    ∷ area largest largest largest largest is (0x7ff8_0000_0000_0000 ∷ flat ∷ [])
    ∷ []

abbrev pub table : List Row
table = table_of (plate +2) (plate +0) stvk
