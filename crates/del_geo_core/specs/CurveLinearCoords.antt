-- The inverse of three covariant vectors (01-scope 3.2: inverse).
use Rattle.std.specs.Float.{Format}
use Rattle.vec3.specs.declared.V3.{V3}
use Rattle.vec3.specs.declared.Divided.{Divided}
use Rattle.del_geo_core.specs.declared.curve_linear_coords.DualBasis.{DualBasis}
use Rattle.vec3.specs.Vec3.{cross_of, dot_of, over_of}

module _ (f : Format) where
  -- one vector of it: across g1 and g2, scaled by 1 / its dot with g0
  unfoldable pub contravariant_of : (g0 g1 g2 : V3) → Divided
  contravariant_of g0 g1 g2 = let gu = cross_of f g1 g2 in over_of f gu (dot_of f gu g0)

  unfoldable pub inverse_of : (g0 g1 g2 : V3) → DualBasis
  inverse_of g0 g1 g2 = record { x = contravariant_of g0 g1 g2; y = contravariant_of g1 g2 g0; z = contravariant_of g2 g0 g1 }
