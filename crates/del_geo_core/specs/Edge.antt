-- The length of an edge in space (01-scope 3.2: edge length).
use Rattle.std.specs.Prelude.{Float}
use Rattle.std.specs.Float.{Format}
use Rattle.vec3.specs.declared.V3.{V3}
use Rattle.vec3.specs.Vec3.{sub_of, norm_of}

module _ (f : Format) where
  unfoldable pub length_of : (p0 p1 : V3) → Float
  length_of p0 p1 = norm_of f (sub_of f p0 p1)
