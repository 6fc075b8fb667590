-- `add_all` meets its contract: each turn of its loop adds one triangle more, and each of its names is a vertex's, so nothing is left out.
use mathlib.Core.Path.{◌≡◌, refl, ◌∙◌}
use Prim.Native.Nat.{◌/◌}
use native.Mathlib.Omega.{arith}
use lib.Ieee.{binary64}
use lib.ListN.{length}
use Rattle.float.specs.Lists.{each, fold_threes}
use Rattle.places.specs.Plane.{vertices_of}
use Rattle.places.proofs.Places.{added}
use Rattle.masses.specs.Masses.{add_masses, add_all}
use Rattle.mesh.specs.Blocks.{name_of}
use Rattle.mesh_masses.specs.Blocks.{xy_in}
use Rattle.mesh_masses.proofs.Lists.{fold_more, names_rows, name_below}
use Rattle.mesh_masses.proofs.add_all.Goals as goal

pub loop-t-init : goal.loop-t-init
unfolding each fold_threes add_all
loop-t-init c = refl

pub loop-t-preserved : goal.loop-t-preserved
unfolding add_masses add_all
loop-t-preserved c =
    let xy = xy_in c.args.points.now in
    let t = c.loop-t.t in
    let named = name_below c.args.cells.now (vertices_of xy) c.requires.cells_value t in
    rw (fold_more (name_of c.args.cells.now) t (add_masses binary64 xy c.args.thick c.args.rho) c.args.vtx2mass.now, ← c.loop-t.invariant, c.add_triangle.ensures, c.mass-m.ensures, c.corners_at.ensures, c.names.ensures)
    (added binary64 _ _ _ _ _ _ _ (vertices_of xy) (c.loop-t.auto.vtx2mass ∙ c.requires.vtx2mass_len) (named 0 (omega arith) (omega arith)) (named 1 (omega arith) (omega arith)) (named 2 (omega arith) (omega arith)))

pub returns : goal.returns
returns c =
    let e : c.loop-t.t ≡ length c.args.cells.now / 16 = omega arith in
    rw (names_rows c.args.cells.now, ← e) c.loop-t.invariant
