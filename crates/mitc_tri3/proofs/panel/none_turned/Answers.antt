-- `panel::none_turned` meets its contract: no triangle from the loop's place on turns right exactly where none at all does, for those before did not.
use mathlib.Core.Path.{sym, ◌∙◌}
use Prim.Native.Nat.{◌/◌, ◌≤◌, ◌<◌}
use native.Mathlib.Omega.{arith}
use lib.ListN.{length}
use Rattle.mitc_tri3.proofs.Triangles.{three, turned_next, turned_done}
use Rattle.mitc_tri3.proofs.panel.none_turned.Goals as goal

pub corners_at-requires-clause-i0_in_bounds : goal.corners_at-requires-clause-i0_in_bounds
corners_at-requires-clause-i0_in_bounds c =
    let h : c.loop-i0.i0-index < length c.args.tri2vtx.now / 3 = rw c.as_chunks.ensures.front_len at c.loop-i0-test.true in
    omega (arith, (three _ _ c.requires.tri2vtx_len c.requires.tri2vtx_value _ c.as_chunks.ensures.front _ h).0)

pub corners_at-requires-clause-i1_in_bounds : goal.corners_at-requires-clause-i1_in_bounds
corners_at-requires-clause-i1_in_bounds c =
    let h : c.loop-i0.i0-index < length c.args.tri2vtx.now / 3 = rw c.as_chunks.ensures.front_len at c.loop-i0-test.true in
    omega (arith, (three _ _ c.requires.tri2vtx_len c.requires.tri2vtx_value _ c.as_chunks.ensures.front _ h).1)

pub corners_at-requires-clause-i2_in_bounds : goal.corners_at-requires-clause-i2_in_bounds
corners_at-requires-clause-i2_in_bounds c =
    let h : c.loop-i0.i0-index < length c.args.tri2vtx.now / 3 = rw c.as_chunks.ensures.front_len at c.loop-i0-test.true in
    omega (arith, (three _ _ c.requires.tri2vtx_len c.requires.tri2vtx_value _ c.as_chunks.ensures.front _ h).2)

pub returns-then-turns_right : goal.returns-then-turns_right
returns-then-turns_right c =
    let h : c.loop-i0.i0-index < length c.args.tri2vtx.now / 3 = rw c.as_chunks.ensures.front_len at c.loop-i0-test.true in
    rw (← c.loop-i0.invariant, turned_next _ _ c.requires.tri2vtx_len c.requires.tri2vtx_value _ c.as_chunks.ensures.front _ h, ← c.corners_at.ensures, ← c.turns_right.ensures, c.if-turns_right.true)

pub loop-i0-preserved : goal.loop-i0-preserved
loop-i0-preserved c =
    let h : c.loop-i0.i0-index < length c.args.tri2vtx.now / 3 = rw c.as_chunks.ensures.front_len at c.loop-i0-test.true in
    sym (turned_next _ _ c.requires.tri2vtx_len c.requires.tri2vtx_value _ c.as_chunks.ensures.front _ h ∙ rw (← c.corners_at.ensures, ← c.turns_right.ensures, c.if-turns_right.false)) ∙ c.loop-i0.invariant

pub returns : goal.returns
returns c =
    let h : length c.args.tri2vtx.now / 3 ≤ c.loop-i0.i0-index = rw c.as_chunks.ensures.front_len at c.loop-i0-test.false in
    sym (turned_done _ _ c.requires.tri2vtx_len _ h) ∙ c.loop-i0.invariant
