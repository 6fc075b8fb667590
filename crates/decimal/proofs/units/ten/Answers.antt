-- `ten` meets its contract: after each turn the power is the next one.
use Rattle.std.proofs.Common.{◌≡◌, refl, arith}
use lib.Ieee.{of_bits, of_int}
use Rattle.decimal.proofs.Values.{next_ten}
use Rattle.decimal.proofs.units.ten.Goals as goal

pub loop-init : goal.loop-init
unfolding of_bits of_int
loop-init c = refl

pub loop-preserved : goal.loop-preserved
loop-preserved c = rw c.loop.invariant (next_ten c.loop.counter (omega arith))

pub returns : goal.returns
returns c = let e : c.loop.counter ≡ c.args.k = omega arith in rw e at c.loop.invariant
