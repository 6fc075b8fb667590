-- The triangles from the loop's place on, added to what there is, give what all of them give.
use Rattle.std.proofs.Common.{◌≡◌, ◌*◌, drop}
use Rattle.std.specs.Float.{binary64}
use Rattle.masses.specs.Masses.{add_all}
use Rattle.mitc_tri3.proofs.panel.add_all.Given as goal

abbrev pub invariant-loop-names : goal.invariant-loop-names
invariant-loop-names l =
    add_all binary64 (drop (l.names-index * 3) l.fn.tri2vtx) l.fn.vtx2xy l.fn.thick l.fn.rho l.vtx2mass
    ≡ add_all binary64 l.fn.tri2vtx l.fn.vtx2xy l.fn.thick l.fn.rho l.initial.vtx2mass
