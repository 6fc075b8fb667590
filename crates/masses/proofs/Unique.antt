-- No second answer fits the statement of `mass`: it is an equation with a definition.
use mathlib.Core.Path.{◌≡◌}
use lib.Ieee.{Float, Format}
use Rattle.float.proofs.Unique.{only}
use Rattle.del_geo_core.specs.Tri2.{Tri2}
use Rattle.vec3.specs.declared.V3.{V3}
use Rattle.masses.specs.Masses.{mass_of}

pub mass : (f : Format) (thick rho : Float) (p : Tri2) {r q : V3} → r ≡ mass_of f thick rho p → q ≡ mass_of f thick rho p → r ≡ q
mass f thick rho p = only
