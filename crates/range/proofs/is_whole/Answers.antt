-- What it compares with is the largest coordinate, and what it adds and takes away lies far enough from both ends of its power of two.
use mathlib.Core.Path.{refl}
use Prim.Native.Nat.{◌*◌, ◌^◌}
use lib.Dec.{lit≤, lit<}
use lib.Ieee.{binary64, of_bits, fits}
use Rattle.rounding.specs.Exact.{value}
use Rattle.rounding.specs.Range.{largest_coordinate}
use Rattle.range.proofs.Tests.{is_whole}
use Rattle.range.proofs.is_whole.Goals as goal

pub returns : goal.returns
unfolding of_bits fits value
returns c =
    is_whole binary64 largest_coordinate (3 * 2 ^ 51) _ _ (record { number = record { fit = tt; fine = tt }; is = refl; small = lit≤ tt })
    (record { number = record { fit = tt; fine = tt }; is = refl; small = lit≤ tt }) (lit≤ tt) (lit< tt) c.args.x (rw c.well_formed.0.1 tt)
