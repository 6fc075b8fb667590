-- A file that is found whole is one that the reader reads: so its blocks lie within it.
use mathlib.Core.Path.{◌≡◌, sym, ◌∙◌}
use mathlib.Core.List.{List}
use Prim.Native.Nat.{ℕ, ◌+◌, ◌*◌, ◌≤◌}
use lib.ListN.{length}
use Rattle.std.specs.Prelude.{Result, Ok}
use Rattle.refusal.specs.Panel.{max_vertices, max_triangles}
use Rattle.mesh.specs.Found.{found_of}
use Rattle.mesh.specs.declared.Mesh.{Mesh}
use Rattle.mesh.specs.declared.Misread.{Misread}
use Rattle.mesh.proofs.Bounds.{within}
use Rattle.mesh.proofs.Found.{whole}

pub whole_within : (f : List ℕ) {r : Result Mesh Misread} {mesh : Mesh} → r ≡ found_of f → r ≡ Ok mesh
    → (mesh.points + 24 * mesh.n ≤ length f) × (mesh.cells + 16 * mesh.m ≤ length f) × (mesh.n ≤ max_vertices) × (mesh.m ≤ max_triangles)
whole_within f {mesh = mesh} e g = within f mesh (whole f (sym e ∙ g))
