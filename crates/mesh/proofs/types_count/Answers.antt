-- `types_count`: the line is compared piece by piece.
use Rattle.std.proofs.Common.{rules, refl, sym, ◌∙◌}
use Rattle.mesh.proofs.After.{stop, go_on}
use Rattle.mesh.proofs.Pieces.{types_in_pieces}
use Rattle.mesh.proofs.types_count.Goals as goal

pub returns-in_err-count : goal.returns-in_err-count
returns-in_err-count c = stop c.same.ensures _ _ c.in_err-count.was (search rules) ∙ sym (types_in_pieces c.args.file.now c.args.at c.args.m)

pub returns-in_err-newline : goal.returns-in_err-newline
returns-in_err-newline c =
    go_on c.same.ensures _ _ _ c.in_ok-count.was (stop c.same_count.ensures _ _ c.in_err-newline.was (search rules)) ∙ sym (types_in_pieces c.args.file.now c.args.at c.args.m)

pub returns-in_err-end : goal.returns-in_err-end
returns-in_err-end c =
    go_on c.same.ensures _ _ _ c.in_ok-count.was (go_on c.same_count.ensures _ _ _ c.in_ok-newline.was (stop c.same-2.ensures _ _ c.in_err-end.was (search rules)))
    ∙ sym (types_in_pieces c.args.file.now c.args.at c.args.m)

pub returns : goal.returns
returns c =
    go_on c.same.ensures _ _ _ c.in_ok-count.was (go_on c.same_count.ensures _ _ _ c.in_ok-newline.was (go_on c.same-2.ensures _ _ _ c.in_ok-end.was refl))
    ∙ sym (types_in_pieces c.args.file.now c.args.at c.args.m)
