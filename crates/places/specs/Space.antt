-- The points of a skin, from a flat list of three numbers for each (01-scope 2.5).
use Rattle.std.specs.Prelude.{List, ℕ, ◌+◌, ◌*◌, ◌/◌, Float, length}
use Rattle.float.specs.Lists.{◌!◌}
use Rattle.del_geo_core.specs.Tri3.{Tri3}
use Rattle.vec3.specs.declared.V3.{V3}

-- how many there are
abbrev pub vertices_of : (vtx2xyz : List Float) → ℕ
vertices_of vtx2xyz = length vtx2xyz / 3

abbrev pub point_at : (vtx2xyz : List Float) (i : ℕ) → V3
point_at vtx2xyz i = record { x = vtx2xyz ! (i * 3); y = vtx2xyz ! (i * 3 + 1); z = vtx2xyz ! (i * 3 + 2) }

unfoldable pub corners_at : (vtx2xyz : List Float) (i0 i1 i2 : ℕ) → Tri3
corners_at vtx2xyz i0 i1 i2 = record { p0 = point_at vtx2xyz i0; p1 = point_at vtx2xyz i1; p2 = point_at vtx2xyz i2 }
