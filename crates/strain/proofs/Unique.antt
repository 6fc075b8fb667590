-- No second answer fits a statement of this crate: each is an equation with a definition.
use mathlib.Core.Path.{◌≡◌}
use lib.Ieee.{Format}
use Rattle.float.proofs.Unique.{only}
use Rattle.del_geo_core.specs.Tri2.{Tri2}
use Rattle.del_geo_core.specs.Tri3.{Tri3}
use Rattle.strain.specs.Strain.{rest_of, rest_of_green_lagrange, values_of}
use Rattle.strain.specs.declared.Rest.{Rest}
use Rattle.strain.specs.declared.Values.{Values}

pub rest_of_lem : (f : Format) (ini : Tri2) {r q : Rest} → r ≡ rest_of f ini → q ≡ rest_of f ini → r ≡ q
rest_of_lem f ini = only

pub rest_of_green_lagrange_lem : (f : Format) (ini : Tri2) {r q : Rest} → r ≡ rest_of_green_lagrange f ini → q ≡ rest_of_green_lagrange f ini → r ≡ q
rest_of_green_lagrange_lem f ini = only

-- `values_of`
pub values_of_lem : (f : Format) (rest : Rest) (def : Tri3) {r q : Values} → r ≡ values_of f rest def → q ≡ values_of f rest def → r ≡ q
values_of_lem f rest def = only
