-- The signed area of a plane triangle, and which way it turns (01-scope 3.2: plane area).
use Rattle.std.specs.Prelude.{Bool, true, false, cond, List, Float}
use Rattle.std.specs.Float.{Format}
use Rattle.std.specs.Float.Ieee.{lt}
use Rattle.float.specs.Lists.{◌!◌, ◌!!◌}
use Rattle.float.specs.Ops.{ops}
use Rattle.del_geo_core.specs.declared.tri2.SignedArea.{SignedArea}
use Rattle.del_geo_core.specs.declared.tri.Tri.{Tri}
use Rattle.del_geo_core.specs.declared.tri2.Turn.{Turn}
use Rattle.del_geo_core.specs.declared.tri2.Turn.TheVariants.{Left, Right, Flat}
use Rattle.del_geo_core.specs.declared.tri2.V2.{V2}

abbrev pub Tri2 : Type 0
Tri2 = Tri V2

-- a point, from a list of its numbers
abbrev pub point_of : List Float → V2
point_of a = record { x = a ! 0; y = a ! 1 }

-- a triangle, from a list of its corners
abbrev pub corners_of : List (List Float) → Tri2
corners_of p = record { p0 = point_of (p !! 0); p1 = point_of (p !! 1); p2 = point_of (p !! 2) }

unfoldable pub is_right_of : Turn → Bool
is_right_of Left = false
is_right_of Right = true
is_right_of Flat = false

module _ (f : Format) where
  open ops f use {◌⊖◌, ◌⊗◌, zero, half}

  infixl 75 ◌⊖◌
  infixl 80 ◌⊗◌
  abbrev pub area_of : (p0 p1 p2 : V2) → Float
  area_of p0 p1 p2 = half ⊗ ((p1.x ⊖ p0.x) ⊗ (p2.y ⊖ p0.y) ⊖ (p2.x ⊖ p0.x) ⊗ (p1.y ⊖ p0.y))

  -- by the computed area: left above zero, right below it, and flat otherwise, so a NaN is
  unfoldable pub turn_of : (area : Float) → Turn
  turn_of area = cond (lt zero area) Left (cond (lt area zero) Right Flat)

  -- THE statement of `area`
  abbrev pub signed_area_of : (p0 p1 p2 : V2) → SignedArea
  signed_area_of p0 p1 p2 = let area = area_of p0 p1 p2 in record { area = area; turn = turn_of area }

  -- THE statement of `turns_right`: by that very field
  abbrev pub turns_right : Tri2 → Bool
  turns_right p = is_right_of (signed_area_of p.p0 p.p1 p.p2).turn
