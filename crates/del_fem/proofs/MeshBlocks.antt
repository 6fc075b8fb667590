-- What `del_fem_mesh_points` and `del_fem_mesh_cells` find is the very block that mesh's own `points` and `cells` hand back: both go by one answer of the reader.
use mathlib.Core.Path.{◌≡◌, refl, sym, ◌∙◌}
use mathlib.Core.List.{List}
use Prim.Native.Nat.{ℕ, ◌+◌, ◌≤◌}
use native.Mathlib.Omega.{arith}
use lib.ListN.{length, take, drop}
use Rattle.std.specs.Prelude.{Result, Ok, Err}
use Rattle.refusal.specs.Refusal.{accepted}
use Rattle.mesh.specs.Mesh.{mesh_of, number_of}
use Rattle.mesh.specs.Blocks.{points_in, cells_in}
use Rattle.mesh.specs.declared.Mesh.{Mesh}
use Rattle.mesh.proofs.Bounds.{within}
use Rattle.del_fem.specs.Exports.{points_at, cells_at, IsPointsExport, IsCellsExport}

module _ (f : List ℕ) where
  points_of : (a : Result Mesh ℕ) → take (points_at a).1 (drop (points_at a).0 f) ≡ points_in f a
  unfolding points_in
  points_of (Ok mesh) = refl
  points_of (Err place) = refl

  cells_of : (a : Result Mesh ℕ) → take (cells_at a).1 (drop (cells_at a).0 f) ≡ cells_in f a
  unfolding cells_in
  cells_of (Ok mesh) = refl
  cells_of (Err place) = refl

  points_end : (a : Result Mesh ℕ) → mesh_of f ≡ a → number_of a ≡ accepted → (points_at a).0 + (points_at a).1 ≤ length f
  points_end (Ok mesh) e h = (within f mesh e).0
  points_end (Err place) e h = absurd (omega (arith, h))

  cells_end : (a : Result Mesh ℕ) → mesh_of f ≡ a → number_of a ≡ accepted → (cells_at a).0 + (cells_at a).1 ≤ length f
  cells_end (Ok mesh) e h = (within f mesh e).1
  cells_end (Err place) e h = absurd (omega (arith, h))

  module _ {r place size : ℕ} where
    -- of a refused file both are empty
    pub points_block_lem : IsPointsExport f r place size → take size (drop place f) ≡ points_in f (mesh_of f)
    points_block_lem (number, at, long) = rw (at, long) (points_of (mesh_of f))

    pub cells_block_lem : IsCellsExport f r place size → take size (drop place f) ≡ cells_in f (mesh_of f)
    cells_block_lem (number, at, long) = rw (at, long) (cells_of (mesh_of f))

    -- all of it lies in the file
    pub points_within : IsPointsExport f r place size → r ≡ accepted → place + size ≤ length f
    points_within (number, at, long) h = rw (at, long) (points_end (mesh_of f) refl (sym number ∙ h))

    pub cells_within : IsCellsExport f r place size → r ≡ accepted → place + size ≤ length f
    cells_within (number, at, long) h = rw (at, long) (cells_end (mesh_of f) refl (sym number ∙ h))
