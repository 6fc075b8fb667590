-- `byte` meets its contract: it is stored where there is room.
use Rattle.std.proofs.Common.{arith}
use Rattle.lines.proofs.Writing.{writes_byte, writes_end}
use Rattle.lines.proofs.byte.Goals as goal

pub returns-then-at-out : goal.returns-then-at-out
returns-then-at-out c = writes_byte _ c.if-at-out.true

pub returns : goal.returns
returns c = writes_end _ (omega (arith, c.requires, c.if-at-out.false))
