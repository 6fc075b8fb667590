-- `number` meets its contract: the text is at the right of the field, and what is left of it there is blank.
use Rattle.lines.proofs.Shown.{shown}
use Rattle.lines.proofs.number.Goals as goal

pub returns : goal.returns
returns c = rw (shown _ _ _ _ c.units.ensures c.show-from.ensures.0 c.show-from.ensures.1 c.min.ensures c.min-start.ensures) at c.put.ensures
