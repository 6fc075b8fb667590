-- `same`: one byte on, or the end of the bytes or of the file, or a byte that differs.
use Rattle.std.proofs.Common.{refl, sym, ◌∙◌}
use Rattle.mesh.proofs.Scans.{same_done, same_ended, same_wrong, same_more}
use Rattle.mesh.proofs.same.Goals as goal

pub loop-b-init : goal.loop-b-init
loop-b-init c = refl

pub returns-in_default : goal.returns-in_default
returns-in_default c = sym (same_ended _ _ 0 _ _ _ c.loop-b-test.true c.in_default.ensures.lookup.3) ∙ c.loop-b.invariant

pub returns-then-c-b : goal.returns-then-c-b
returns-then-c-b c = let byte = c.in-Some.ensures.lookup in sym (same_wrong _ _ 0 _ _ _ c.loop-b-test.true byte.3.0 (λ e. c.if-c-b.true (byte.3.1 0 ∙ e))) ∙ c.loop-b.invariant

pub loop-b-preserved : goal.loop-b-preserved
loop-b-preserved c = let byte = c.in-Some.ensures.lookup in same_more _ _ 0 _ _ _ c.loop-b-test.true byte.3.0 (sym (byte.3.1 0) ∙ c.if-c-b.false) ∙ c.loop-b.invariant

pub returns : goal.returns
returns c = sym (same_done _ _ 0 _ _ _ c.loop-b-test.false) ∙ c.loop-b.invariant
