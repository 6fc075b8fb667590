-- `panel::add_all` meets its contract: each name is a vertex's, so nothing is left out.
use mathlib.Core.Path.{sym, ◌∙◌}
use Prim.Native.Nat.{◌/◌, ◌≤◌, ◌<◌}
use native.Mathlib.Omega.{arith}
use lib.Ieee.{binary64}
use lib.ListN.{length}
use Rattle.places.proofs.Places.{added}
use Rattle.masses.specs.Masses.{add_masses}
use Rattle.mitc_tri3.proofs.Triangles.{three, added_next, added_done}
use Rattle.mitc_tri3.proofs.panel.add_all.Goals as goal

pub corners_at-requires-clause-i0_in_bounds : goal.corners_at-requires-clause-i0_in_bounds
corners_at-requires-clause-i0_in_bounds c =
    let h : c.loop-names.names-index < length c.args.tri2vtx.now / 3 = rw c.as_chunks.ensures.front_len at c.loop-names-test.true in
    omega (arith, (three _ _ c.requires.tri2vtx_len c.requires.tri2vtx_value _ c.as_chunks.ensures.front _ h).0)

pub corners_at-requires-clause-i1_in_bounds : goal.corners_at-requires-clause-i1_in_bounds
corners_at-requires-clause-i1_in_bounds c =
    let h : c.loop-names.names-index < length c.args.tri2vtx.now / 3 = rw c.as_chunks.ensures.front_len at c.loop-names-test.true in
    omega (arith, (three _ _ c.requires.tri2vtx_len c.requires.tri2vtx_value _ c.as_chunks.ensures.front _ h).1)

pub corners_at-requires-clause-i2_in_bounds : goal.corners_at-requires-clause-i2_in_bounds
corners_at-requires-clause-i2_in_bounds c =
    let h : c.loop-names.names-index < length c.args.tri2vtx.now / 3 = rw c.as_chunks.ensures.front_len at c.loop-names-test.true in
    omega (arith, (three _ _ c.requires.tri2vtx_len c.requires.tri2vtx_value _ c.as_chunks.ensures.front _ h).2)

pub loop-names-preserved : goal.loop-names-preserved
unfolding add_masses
loop-names-preserved c =
    let h : c.loop-names.names-index < length c.args.tri2vtx.now / 3 = rw c.as_chunks.ensures.front_len at c.loop-names-test.true in
    let names = three _ _ c.requires.tri2vtx_len c.requires.tri2vtx_value _ c.as_chunks.ensures.front _ h in
    rw (c.add_triangle.ensures, c.mass-m.ensures, c.corners_at.ensures, added binary64 _ _ _ _ _ _ _ _ (c.loop-names.auto.vtx2mass ∙ c.requires.vtx2mass_len) names.0 names.1 names.2)
    (added_next _ _ c.requires.tri2vtx_len c.requires.tri2vtx_value _ c.as_chunks.ensures.front _ h c.args.thick c.args.rho c.loop-names.vtx2mass) ∙ c.loop-names.invariant

pub returns : goal.returns
returns c =
    let h : length c.args.tri2vtx.now / 3 ≤ c.loop-names.names-index = rw c.as_chunks.ensures.front_len at c.loop-names-test.false in
    sym (added_done _ _ c.requires.tri2vtx_len _ h c.args.thick c.args.rho c.loop-names.vtx2mass) ∙ c.loop-names.invariant
