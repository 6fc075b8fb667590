-- `text` is the table's: 0 has the first row, a refusal its own, and no row has any other number.
use Rattle.refusal.specs.Meanings.{lookup}
use Rattle.words.proofs.Table.{no_row}
use Rattle.words.proofs.text.Goals as goal

pub returns-then-number-eq-ACCEPTED : goal.returns-then-number-eq-ACCEPTED
unfolding lookup
returns-then-number-eq-ACCEPTED c = rw c.if-number-eq-ACCEPTED.true

pub returns-in-Err : goal.returns-in-Err
returns-in-Err c = no_row c.args.number c.if-number-eq-ACCEPTED.false c.in-Err.ensures.1
