-- Corners in space, from nested lists (01-scope 12), and the test that kernels make of them (01-scope 2.1: 3).
use Rattle.std.specs.Prelude.{Bool, ◌&&◌}
use Rattle.std.specs.Float.Ieee.Scale.{finite}
use Rattle.del_geo_core.specs.Tri3.{Tri3}
use Rattle.vec3.specs.declared.V3.{V3}
pub use Rattle.vec3.specs.Vec3.{point_of}
pub use Rattle.del_geo_core.specs.Tri3.{corners_of}

abbrev pub point_finite : V3 → Bool
point_finite a = finite a.x && finite a.y && finite a.z

abbrev pub is_finite_of : Tri3 → Bool
is_finite_of p = point_finite p.p0 && point_finite p.p1 && point_finite p.p2
