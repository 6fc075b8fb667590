-- No second answer fits a statement of this crate: each is an equation with a definition.
use mathlib.Core.Path.{◌≡◌}
use mathlib.Core.Bool.{Bool}
use mathlib.Core.List.{List}
use lib.Ieee.{Float, Format}
use Rattle.float.specs.Lists.{all_finite, cleared}
use Rattle.float.proofs.Unique.{only}

-- `each_finite` and `all_finite`
pub all_finite_lem : (xs : List Float) {r q : Bool} → r ≡ all_finite xs → q ≡ all_finite xs → r ≡ q
all_finite_lem xs = only

pub clear : (f : Format) (xs : List Float) {r q : List Float} → r ≡ cleared f xs → q ≡ cleared f xs → r ≡ q
clear f xs = only
