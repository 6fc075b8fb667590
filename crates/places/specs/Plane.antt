-- The vertices of a panel, from a flat list of two coordinates for each (01-scope 2.3).
use Rattle.std.specs.Prelude.{Bool, List, ℕ, ◌+◌, ◌*◌, ◌/◌, Float, length}
use Rattle.float.specs.Lists.{◌!◌, every, map_threes}
use Rattle.del_geo_core.specs.Tri2.{Tri2}
use Rattle.del_geo_core.specs.declared.tri2.V2.{V2}
use Rattle.corners.specs.Plane.{point_finite}

-- how many there are: a left-over last number is none
abbrev pub vertices_of : (vtx2xy : List Float) → ℕ
vertices_of vtx2xy = length vtx2xy / 2

abbrev pub point_at : (vtx2xy : List Float) (i : ℕ) → V2
point_at vtx2xy i = record { x = vtx2xy ! (i * 2); y = vtx2xy ! (i * 2 + 1) }

unfoldable pub corners_at : (vtx2xy : List Float) (i0 i1 i2 : ℕ) → Tri2
corners_at vtx2xy i0 i1 i2 = record { p0 = point_at vtx2xy i0; p1 = point_at vtx2xy i1; p2 = point_at vtx2xy i2 }

-- every triangle's corners, in the list's order
unfoldable pub triangles : (tri2vtx : List ℕ) (vtx2xy : List Float) → List Tri2
triangles tri2vtx vtx2xy = map_threes (corners_at vtx2xy) tri2vtx

-- the coordinates of every vertex that is named are finite, and no others are looked at (01-scope 2.4)
unfoldable pub named_finite : (tri2vtx : List ℕ) (vtx2xy : List Float) → Bool
named_finite tri2vtx vtx2xy = every (λ i. point_finite (point_at vtx2xy i)) tri2vtx
