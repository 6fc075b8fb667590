-- No second answer fits a statement of this crate: each is an equation with a definition.
use mathlib.Core.Path.{◌≡◌}
use lib.Ieee.{Format}
use Rattle.float.proofs.Unique.{only}
use Rattle.del_geo_core.specs.declared.curve_linear_coords.DualBasis.{DualBasis}
use Rattle.del_geo_core.specs.Tri2.{Tri2}
use Rattle.del_geo_core.specs.Tri3.{Tri3}
use Rattle.vec3.specs.declared.V3.{V3}
use Rattle.edges.specs.Edges.{plane_of, space_of, glstrain_of, gu_gu_of}
use Rattle.edges.specs.declared.Gd.{Gd}
use Rattle.edges.specs.declared.GuGu.{GuGu}

pub plane : (f : Format) (p : Tri2) {r q : Gd} → r ≡ plane_of f p → q ≡ plane_of f p → r ≡ q
plane f p = only

pub space : (f : Format) (p : Tri3) {r q : Gd} → r ≡ space_of f p → q ≡ space_of f p → r ≡ q
space f p = only

pub glstrain : (f : Format) (gd0 gd : Gd) {r q : V3} → r ≡ glstrain_of f gd0 gd → q ≡ glstrain_of f gd0 gd → r ≡ q
glstrain f gd0 gd = only

pub gu_gu_lem : (f : Format) (gu : DualBasis) {r q : GuGu} → r ≡ gu_gu_of f gu → q ≡ gu_gu_of f gu → r ≡ q
gu_gu_lem f gu = only
