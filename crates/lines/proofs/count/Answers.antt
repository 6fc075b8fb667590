-- `count` meets its contract: its test is the definition's.
use Rattle.std.proofs.Common.{◌^◌, arith}
use lib.Ieee.{of_bits}
use borrow.Author.Tests.{lt-leb}
use Rattle.lines.proofs.count.Goals as goal

pub returns-else-n-le-LARGEST : goal.returns-else-n-le-LARGEST
unfolding of_bits
returns-else-n-le-LARGEST c = rw (lt-leb c.args.n (2 ^ 53) (omega arith))
