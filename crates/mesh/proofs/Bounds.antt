-- What is taken lies within the file, for it stands there; and the counts lie within their limits.
use mathlib.Core.Path.{◌≡◌, sym, ◌∙◌, ap}
use mathlib.Core.List.{List, ◌++◌}
use Prim.Native.Nat.{ℕ, ◌+◌, ◌-◌, ◌*◌, ◌≤◌, ◌<◌}
use native.Mathlib.Omega.{arith}
use lib.ListN.{length, drop, length-append, length-drop}
use Rattle.refusal.specs.Panel.{max_vertices, max_triangles}
use Rattle.mesh.specs.Text.{newline}
use Rattle.std.specs.Prelude.{Ok}
use Rattle.mesh.specs.Items.{Step, line}
use Rattle.mesh.specs.Mesh.{points_from, closed, cells_from, types_from, mesh_of}
use Rattle.mesh.specs.declared.Mesh.{Mesh}
use Rattle.mesh.proofs.Item.{Texts}
use Rattle.mesh.proofs.Lines.{line_item}
use Rattle.mesh.proofs.After.{after_taken}
use Rattle.mesh.proofs.Sequence.{Part, of_item}
use Rattle.mesh.proofs.ReaderParts.{ClosedThen, head_part, points_from_lem, cells_part, types_part}
use Rattle.mesh.proofs.ReaderSteps.{steps}

module _ (f : List ℕ) where
  left : (at a : ℕ) (w : List ℕ) → drop at f ≡ w ++ drop a f → length f - at ≡ length w + (length f - a)
  left at a w d = simp (length-append, length-drop) at (ap length d)

  stays_within : {R : Texts} {p : (at : ℕ) → Step} → Part f R p → (at v a : ℕ) → at ≤ length f → p at ≡ Ok (v, a) → a ≤ length f
  stays_within part at v a h e = let (w, _, d, place) = part.taken at v a e in omega (arith, left at a w d)

  -- a line that has bytes, wherever it is looked for
  pub line_within : (t : List ℕ) (value at v a : ℕ) → 0 < length t → line value t at (drop at f) ≡ Ok (v, a) → a ≤ length f
  line_within t value at v a h e = let (w, (_, same), d, place) = (of_item f (line_item value t)).taken at v a e in omega (arith, ap length same, left at a w d)

  pub closed_within : (block : Step) (v a : ℕ) → closed f block ≡ Ok (v, a) → a ≤ length f
  unfolding closed
  closed_within block v a e = let (_, b, _, newline-taken) = after_taken block _ (v, a) e in line_within newline 0 b v a (omega arith) newline-taken

  pub points_known : (n a : ℕ) → points_from f ≡ Ok (n, a) → (n ≤ max_vertices) × (a ≤ length f)
  points_known n a e =
      let at-0 = sym (points_from_lem f) ∙ e in
      (((head_part f).taken 0 n a at-0).1.0, stays_within (head_part f) 0 n a (omega arith) at-0)

  pub cells_known : (n at m a : ℕ) → at ≤ length f → cells_from f n at ≡ Ok (m, a) → (m ≤ max_triangles) × (a ≤ length f)
  cells_known n at m a h e = (((cells_part f n).taken at m a e).1.3.0, stays_within (cells_part f n) at m a h e)

  pub types_known : (n m at v a : ℕ) → at ≤ length f → types_from f n m at ≡ Ok (v, a) → a ≤ length f
  types_known n m at v a h e = stays_within (types_part f n m) at v a h e

  -- a block that is taken ends before the place after it
  block_within : {P : List ℕ → Type 0} {S : Texts} {p : (at : ℕ) → Step} → Part f (ClosedThen P S) p → (at v a : ℕ) → p at ≡ Ok (v, a)
      → (b : List ℕ) × P b × (at + length b ≤ a)
  block_within part at v a e =
      let (w, (b, y, h, s, text), d, place) = part.taken at v a e in
      (b, h, omega (arith, simp length-append at (ap length text)))

  -- THE bounds of a file that is read
  pub within : (mesh : Mesh) → mesh_of f ≡ Ok mesh
      → (mesh.points + 24 * mesh.n ≤ length f) × (mesh.cells + 16 * mesh.m ≤ length f) × (mesh.n ≤ max_vertices) × (mesh.m ≤ max_triangles)
  within mesh e =
      let s = steps f mesh e in
      let (few_points, points_end) = points_known mesh.n mesh.points s.to_points in
      let (few-cells, cells_end) = cells_known mesh.n mesh.points mesh.m mesh.cells points_end s.to_cells in
      let types-end = types_known mesh.n mesh.m mesh.cells s.v mesh.types cells_end s.to_types in
      let (_, size, before-cells) = block_within (cells_part f mesh.n) mesh.points mesh.m mesh.cells s.to_cells in
      let (_, (sizes, _), before-types) = block_within (types_part f mesh.n mesh.m) mesh.cells s.v mesh.types s.to_types in
      (omega arith, omega arith, few_points, few-cells)
