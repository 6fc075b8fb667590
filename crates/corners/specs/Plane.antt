-- Corners in the plane, from nested lists (01-scope 12), and the test that kernels make of them (01-scope 2.1: 3).
use Rattle.std.specs.Prelude.{Bool, ◌&&◌}
use Rattle.std.specs.Float.Ieee.Scale.{finite}
use Rattle.del_geo_core.specs.Tri2.{Tri2}
use Rattle.del_geo_core.specs.declared.tri2.V2.{V2}
pub use Rattle.del_geo_core.specs.Tri2.{point_of, corners_of}

abbrev pub point_finite : V2 → Bool
point_finite a = finite a.x && finite a.y

abbrev pub is_finite_of : Tri2 → Bool
is_finite_of p = point_finite p.p0 && point_finite p.p1 && point_finite p.p2
