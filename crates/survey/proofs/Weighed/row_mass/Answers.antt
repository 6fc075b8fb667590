-- `row_mass` meets its contract: its chain folds the points that are of the row, and the definition leaves the others out.
use Rattle.std.proofs.Common.{rules, tests, ◌∙◌, arith}
use Rattle.std.specs.Float.{binary64}
use Rattle.std.proofs.lemmas.Iterator.{YieldsList-from_range}
use Rattle.std.proofs.lemmas.Iterator.Consumers.{YieldsList-at, YieldsList-from_filter, fold_from_yields_List}
use Rattle.float.specs.Ops.{ops}
use Rattle.survey.specs.Survey.{points_count, mass_at, in_row, row_mass_of}
use Rattle.survey.proofs.Chains.{folded_kept}
use Rattle.survey.proofs.Weighed.row_mass.Goals as goal
open ops binary64 use {◌⊕◌, zero as nought}

infixl 75 ◌⊕◌
pub returns : goal.returns
unfolding row_mass_of
returns c = let w = c.args.self.now in let n = points_count w.wall.points.now in
    fold_from_yields_List _ (λ s i. s ⊕ mass_at w.mass.now i) _ _ c.fold.ensures.ran
    (YieldsList-from_filter _ (in_row w.wall.points.now c.args.row) (YieldsList-at c.filter.ensures.source (YieldsList-from_range 0 n n (cc) (omega arith))) c.filter.ensures.closure (λ x r q k. search (rules, tests)))
    (λ a x b q k. search rules)
    ∙ folded_kept (λ s i. s ⊕ mass_at w.mass.now i) (in_row w.wall.points.now c.args.row) nought n
