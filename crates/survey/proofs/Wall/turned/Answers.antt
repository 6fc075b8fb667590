-- `turned` meets its contract: it finds the first triangle that turns right.
use Rattle.std.proofs.Common.{rules, tests}
use Rattle.std.proofs.lemmas.Iterator.{first_from_Range}
use Rattle.survey.specs.Survey.{turned_at}
use Rattle.survey.proofs.First.{found}
use Rattle.survey.proofs.Wall.turned.Goals as goal

pub returns : goal.returns
returns c = rw c.triangles_count.ensures at
    (found _ (turned_at c.args.self.now.points.now c.args.self.now.cells.now) _ (first_from_Range _ _ _ _ _ _ c.find.ensures.ran (λ x q k. search (rules, tests)) (λ x q k. search (rules, tests))))
