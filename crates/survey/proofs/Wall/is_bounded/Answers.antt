-- `is_bounded` meets its contract: its chain folds the points of the table.
use Rattle.std.proofs.Common.{rules, ◌∙◌, ◌&&◌, arith}
use Rattle.std.proofs.lemmas.Iterator.{YieldsList-from_range, YieldsList-from_map}
use Rattle.std.proofs.lemmas.Iterator.Consumers.{YieldsList-at, fold_from_yields_List}
use Rattle.survey.specs.Survey.{points_count, point_of, is_whole_point, is_bounded_of}
use Rattle.survey.proofs.Chains.{folded}
use Rattle.survey.proofs.Wall.is_bounded.Goals as goal

pub returns : goal.returns
unfolding is_bounded_of
returns c = let p = c.args.self.now.points.now in
    fold_from_yields_List _ (λ ok p. ok && is_whole_point p) _ _ c.fold.ensures.ran
    (YieldsList-from_map _ (point_of p) (YieldsList-at c.map.ensures.source (YieldsList-from_range 0 (points_count p) (points_count p) (cc) (omega arith))) c.map.ensures.closure (λ x r q k. search rules))
    (λ a x b q k. search rules)
    ∙ rw (c.is_factor.ensures, c.is_factor-2.ensures) (folded (λ ok p. ok && is_whole_point p) (point_of p) _ (points_count p))
