-- `area` meets its contract: its chain folds the triangles of the table.
use Rattle.std.proofs.Common.{rules, ◌∙◌, arith}
use Rattle.std.specs.Float.{binary64}
use Rattle.std.proofs.lemmas.Iterator.{YieldsList-from_range, YieldsList-from_map}
use Rattle.std.proofs.lemmas.Iterator.Consumers.{YieldsList-at, fold_from_yields_List}
use Rattle.float.specs.Ops.{ops}
use Rattle.del_geo_core.specs.Tri2.{area_of}
use Rattle.survey.specs.Survey.{triangles_count, triangle_of, areas_of}
use Rattle.survey.proofs.Chains.{folded}
use Rattle.survey.proofs.Wall.area.Goals as goal
open ops binary64 use {◌⊕◌}

infixl 75 ◌⊕◌
pub returns : goal.returns
unfolding areas_of
returns c = let w = c.args.self.now in let n = triangles_count w.cells.now in
    fold_from_yields_List _ (λ s p. s ⊕ area_of binary64 p.p0 p.p1 p.p2) _ _ c.fold.ensures.ran
    (YieldsList-from_map _ (triangle_of w.points.now w.cells.now) (YieldsList-at c.map.ensures.source (YieldsList-from_range 0 n n (cc) (omega arith))) c.map.ensures.closure (λ x r q k. search rules))
    (λ a x b q k. search rules)
    ∙ folded _ (triangle_of w.points.now w.cells.now) _ n
