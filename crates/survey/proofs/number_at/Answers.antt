-- `number_at` meets its contract: the four bytes are those from the place on.
use Rattle.std.proofs.Common.{◌∙◌}
use Rattle.survey.proofs.Places.{number_of_four, number_of_fewer}
use Rattle.survey.proofs.number_at.Goals as goal

pub returns-in_default : goal.returns-in_default
returns-in_default c = number_of_fewer c.args.file.now c.args.place (rw c.min.ensures at c.in_default.len_below)

pub returns-in-len4-up : goal.returns-in-len4-up
returns-in-len4-up c = rw c.min.ensures at c.four_bytes.ensures.0 ∙ number_of_four c.args.file.now c.args.place (rw c.min.ensures at c.in-len4-up.len_at_least)
