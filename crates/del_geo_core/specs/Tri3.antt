-- A triangle in space: its area and unit normal (01-scope 3.2: space area, unit normal and area).
use Rattle.std.specs.Prelude.{List, Float}
use Rattle.std.specs.Float.{Format}
use Rattle.float.specs.Lists.{◌!!◌}
use Rattle.float.specs.Ops.{ops}
use Rattle.vec3.specs.declared.V3.{V3}
use Rattle.del_geo_core.specs.declared.tri.Tri.{Tri}
use Rattle.del_geo_core.specs.declared.tri3.NormalArea.{NormalArea}
use Rattle.vec3.specs.Vec3.{point_of, cross_of, sub_of, norm_of, unit_of}

abbrev pub Tri3 : Type 0
Tri3 = Tri V3

-- a triangle, from a list of its corners
abbrev pub corners_of : List (List Float) → Tri3
corners_of p = record { p0 = point_of (p !! 0); p1 = point_of (p !! 1); p2 = point_of (p !! 2) }

module _ (f : Format) where
  open ops f use {◌⊗◌, half}

  infixl 80 ◌⊗◌
  unfoldable pub normal_of : (p0 p1 p2 : V3) → V3
  normal_of p0 p1 p2 = cross_of f (sub_of f p1 p0) (sub_of f p2 p0)

  unfoldable pub area_of : (p0 p1 p2 : V3) → Float
  area_of p0 p1 p2 = half ⊗ norm_of f (normal_of p0 p1 p2)

  unfoldable pub unit_normal_area_of : (p0 p1 p2 : V3) → NormalArea
  unit_normal_area_of p0 p1 p2 = let normal = unit_of f (normal_of p0 p1 p2) in record { normal = normal; area = normal.by ⊗ half }
