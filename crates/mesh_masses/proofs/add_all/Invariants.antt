-- The buffer holds what it held and what the first t triangles give.
use Rattle.std.proofs.Common.{◌≡◌}
use Rattle.std.specs.Float.{binary64}
use Rattle.masses.specs.Masses.{add_all}
use Rattle.mesh.specs.Blocks.{name_of}
use Rattle.mesh_masses.specs.Blocks.{xy_in}
use Rattle.mesh_masses.proofs.Lists.{rows}
use Rattle.mesh_masses.proofs.add_all.Given as goal

abbrev pub invariant-loop-t : goal.invariant-loop-t
invariant-loop-t l = l.vtx2mass ≡ add_all binary64 (rows (name_of l.fn.cells) 3 l.t) (xy_in l.fn.points) l.fn.thick l.fn.rho l.initial.vtx2mass
