-- `points_from`: the items are looked for in the definition's order, each where the one before it ends.
use Rattle.std.proofs.Common.{rules, arith, sym, ◌∙◌}
use Rattle.mesh.specs.Text.{version_line, dataset_line}
use Rattle.mesh.specs.Mesh.{points_from}
use Rattle.mesh.proofs.After.{stop, go_on}
use Rattle.mesh.proofs.Bounds.{line_within}
use Rattle.mesh.proofs.points_from.Goals as goal

pub title-requires : goal.title-requires
title-requires c = line_within _ version_line 0 0 _ _ (omega arith) (sym c.same.ensures ∙ c.in_ok-a.was)

pub returns-in_err-b : goal.returns-in_err-b
unfolding points_from
returns-in_err-b c = go_on c.same.ensures _ _ _ (c.in_ok-a.was) (stop c.title.ensures _ _ (c.in_err-b.was) (search rules))

pub returns-in_err-c : goal.returns-in_err-c
unfolding points_from
returns-in_err-c c = go_on c.same.ensures _ _ _ (c.in_ok-a.was) (go_on c.title.ensures _ _ _ (c.in_ok-b.was) (stop c.same-2.ensures _ _ (c.in_err-c.was) (search rules)))

pub returns-in_err-d : goal.returns-in_err-d
unfolding points_from
returns-in_err-d c =
    go_on c.same.ensures _ _ _ (c.in_ok-a.was) (go_on c.title.ensures _ _ _ (c.in_ok-b.was) (go_on c.same-2.ensures _ _ _ (c.in_ok-c.was)
    (stop c.same-3.ensures _ _ (c.in_err-d.was) (search rules))))

pub points_count-requires : goal.points_count-requires
points_count-requires c = line_within _ dataset_line 0 _ _ _ (omega arith) (sym c.same-3.ensures ∙ c.in_ok-d.was)

pub returns : goal.returns
unfolding points_from
returns c =
    go_on c.same.ensures _ _ _ (c.in_ok-a.was) (go_on c.title.ensures _ _ _ (c.in_ok-b.was) (go_on c.same-2.ensures _ _ _ (c.in_ok-c.was)
    (go_on c.same-3.ensures _ _ _ (c.in_ok-d.was) c.points_count.ensures)))
