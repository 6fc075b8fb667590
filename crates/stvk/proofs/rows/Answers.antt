-- `rows` meets its contract: with the terms put in, each sum is the definition's, operation for operation.
use Rattle.stvk.specs.Stvk.{at_of, dtmp0_of, row_of}
use Rattle.stvk.specs.Parts.{four_of, terms_of, sum_of, sums_of, rows_of}
use Rattle.stvk.proofs.rows.Goals as goal

pub returns : goal.returns
unfolding at_of dtmp0_of row_of four_of terms_of sum_of sums_of rows_of
returns c = rw (
  c.row.ensures,
  c.row-2.ensures,
  c.row-3.ensures,
  c.terms_of-x.ensures,
  c.terms_of-y.ensures,
  c.terms_of-z.ensures,
  c.dndr-n.ensures,
)
