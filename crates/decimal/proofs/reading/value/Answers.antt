-- `value` meets its contract: both numbers are exact, and the product or the quotient is rounded once.
use Rattle.std.proofs.Common.{arith}
use Rattle.decimal.proofs.Values.{product, quotient}
use Rattle.decimal.proofs.reading.value.Goals as goal

pub returns-then-down-up : goal.returns-then-down-up
returns-then-down-up c = rw c.ten.ensures (product _ _ _ c.requires.0 c.requires.1 (omega arith))

pub returns-else-down-up : goal.returns-else-down-up
returns-else-down-up c = rw c.ten-else-down-up.ensures (quotient _ _ _ c.requires.0 c.requires.2 (omega arith))
