-- What it compares with are 1 over the largest factor, which is exact, and the largest factor.
use mathlib.Core.Path.{refl}
use Prim.Native.Nat.{◌^◌}
use lib.Dec.{lit≤, lit<}
use lib.Ieee.{binary64, of_bits, fits, div}
use Rattle.rounding.specs.Exact.{value}
use Rattle.rounding.specs.Range.{largest_factor}
use Rattle.range.proofs.Tests.{is_factor}
use Rattle.range.proofs.is_factor.Goals as goal

pub returns : goal.returns
unfolding of_bits fits value div
returns c =
    is_factor binary64 largest_factor (2 ^ 1034) _ _ (record { number = record { fit = tt; fine = tt }; is = refl; small = lit≤ tt })
    (record { number = record { fit = tt; fine = tt }; is = refl; small = lit≤ tt }) (lit< tt) (lit< tt) refl c.args.x (rw c.well_formed.0.1 tt)
