-- A matrix of three rows times a vector: a sum of three products for each row, as the sources write it out (01-scope 3.2: dot).
use Rattle.std.specs.Float.{Format}
use Rattle.vec3.specs.declared.V3.{V3}
use Rattle.del_geo_core.specs.declared.mat3_row_major.Matrix3.{Matrix3}
use Rattle.vec3.specs.Vec3.{dot_of}

module _ (f : Format) where
  unfoldable pub mult_vec_of : (m : Matrix3) (v : V3) → V3
  mult_vec_of m v = record { x = dot_of f m.x v; y = dot_of f m.y v; z = dot_of f m.z v }
