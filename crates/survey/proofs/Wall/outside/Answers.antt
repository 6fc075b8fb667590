-- `outside` meets its contract: it finds the first coordinate that is not inside.
use Rattle.std.proofs.Common.{rules, tests}
use Rattle.std.proofs.lemmas.Iterator.{first_from_Range}
use Rattle.survey.specs.Survey.{outside_at}
use Rattle.survey.proofs.First.{found}
use Rattle.survey.proofs.Wall.outside.Goals as goal

pub returns : goal.returns
returns c = rw c.points_count.ensures at
    (found _ (outside_at c.args.self.now.points.now) _ (first_from_Range _ _ _ _ _ _ c.find.ensures.ran (λ x q k. search (rules, tests)) (λ x q k. search (rules, tests))))
