-- So far it has seen what there is to see of the first t triangles.
use Rattle.std.proofs.Common.{◌≡◌, ◌/◌, length}
use Rattle.std.specs.Float.{binary64}
use Rattle.refusal.specs.Panel.{names_below}
use Rattle.places.specs.Plane.{named_finite}
use Rattle.mitc_tri3.specs.Masses.{none_turned}
use Rattle.mesh.specs.Blocks.{name_of}
use Rattle.mesh_masses.specs.Blocks.{xy_in}
use Rattle.mesh_masses.proofs.Lists.{rows}
use Rattle.mesh_masses.proofs.look.Given as goal

abbrev pub invariant-loop-t : goal.invariant-loop-t
invariant-loop-t l =
    let first = rows (name_of l.fn.cells) 3 l.t in
    record {
      named : l.named ≡ names_below (length l.fn.points / 24) first;
      finite : l.finite ≡ named_finite first (xy_in l.fn.points);
      unturned : l.unturned ≡ none_turned binary64 first (xy_in l.fn.points);
    }
