-- `panel::named_finite` meets its contract: where every coordinate is finite those of the named vertices are; else each name is looked at.
use mathlib.Core.Path.{sym, ◌∙◌}
use native.Mathlib.Omega.{arith}
use Rattle.float.proofs.Scan.{every_step, every_end}
use Rattle.refusal.proofs.Panel.{named}
use Rattle.places.specs.Plane.{named_finite}
use Rattle.places.proofs.Plane.{named_finite_lem}
use Rattle.mitc_tri3.proofs.panel.named_finite.Goals as goal

pub returns-then-all_finite : goal.returns-then-all_finite
returns-then-all_finite c = sym (named_finite_lem _ c.args.vtx2xy.now c.requires (sym c.all_finite.ensures ∙ c.if-all_finite.true))

pub point_at-requires : goal.point_at-requires
point_at-requires c = omega (arith, named _ _ c.requires c.loop-i.i-index c.loop-i-test.true)

pub loop-i-preserved : goal.loop-i-preserved
unfolding named_finite
loop-i-preserved c = every_step _ _ c.loop-i.i-index 0 c.loop-i.ok _ c.loop-i-test.true (rw (c.is_finite-ok.ensures, c.point_at.ensures)) ∙ c.loop-i.invariant

pub returns : goal.returns
unfolding named_finite
returns c = every_end _ _ c.loop-i.i-index c.loop-i.ok _ c.loop-i-test.false c.loop-i.invariant
