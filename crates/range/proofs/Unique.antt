-- No second answer fits the statements of this crate.
use mathlib.Core.Path.{◌≡◌}
use mathlib.Core.Bool.{Bool}
use lib.Ieee.{Float, binary64}
use Rattle.float.proofs.Unique.{only}
use Rattle.rounding.specs.Whole.{is_whole_up_to}
use Rattle.rounding.specs.Range.{largest_coordinate, largest_factor, between}

pub is_whole : (x : Float) {r q : Bool} → r ≡ is_whole_up_to binary64 largest_coordinate x → q ≡ is_whole_up_to binary64 largest_coordinate x → r ≡ q
is_whole x = only

pub is_factor : (x : Float) {r q : Bool} → r ≡ between binary64 largest_factor x → q ≡ between binary64 largest_factor x → r ≡ q
is_factor x = only
