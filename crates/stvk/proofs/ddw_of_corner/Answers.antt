-- `ddw_of_corner` meets its contract: what its calls ensure, put in one after the other, is the definition.
use Rattle.stvk.specs.Stvk.{at_of}
use Rattle.stvk.specs.Parts.{rows_of, blocks_of}
use Rattle.stvk.proofs.ddw_of_corner.Goals as goal

pub returns : goal.returns
unfolding at_of rows_of blocks_of
returns c = rw (
  c.block.ensures,
  c.block-2.ensures,
  c.block-3.ensures,
  c.dw_at.ensures,
  c.dw_at-2.ensures,
  c.dw_at-3.ensures,
  c.rows-x.ensures,
  c.rows-y.ensures,
  c.rows-z.ensures,
  c.dndr-n.ensures,
)
