-- `title`: the newline that is found is the definition's first, or there is none.
use Rattle.std.proofs.Common.{◌≡◌, ◌+◌, length, drop, arith, sym, ◌∙◌}
use Rattle.std.proofs.Math.ListN.{length-drop}
use Rattle.mesh.proofs.Item.{err_at}
use Rattle.mesh.proofs.Scans.{title_found, title_ended, title_none, tail}
use Rattle.mesh.proofs.title.Goals as goal

pub returns-in-Some : goal.returns-in-Some
returns-in-Some c = sym (title_found c.args.at _ c.in-Some.i (rw tail at (sym c.newline.ensures.value ∙ c.in-Some.is)))

pub returns-in-None : goal.returns-in-None
returns-in-None c =
    let short = rw tail at c.if-rest-lt256.true in
    let end : c.args.at + length (drop c.args.at c.args.file.now) ≡ length c.args.file.now = rw length-drop (omega arith) in
    sym (title_ended c.args.at _ (rw tail at (sym c.newline.ensures.value ∙ c.in-None.is)) short ∙ err_at end)

pub returns-in-None-2 : goal.returns-in-None-2
returns-in-None-2 c = sym (title_none c.args.at _ (rw tail at (sym c.newline.ensures.value ∙ c.in-None-2.is)) (rw tail at c.if-rest-lt256.false))
