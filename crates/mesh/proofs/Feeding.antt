-- What `coordinate` and `name` read in the blocks that the writer wrote is what it was given: number i of a block stands i numbers on, and a triangle's names past its 3.
-- Where a block has no such number, they give what masses and skin refuse.
use mathlib.Core.Path.{◌≡◌, sym, ◌∙◌, ap}
use mathlib.Core.Bool.{true, false}
use mathlib.Core.List.{List}
use mathlib.Core.Logic.{◌⊎◌}
use Prim.Native.Nat.{ℕ, ◌+◌, ◌*◌, ◌/◌, ◌≤◌, ◌<◌}
use native.Mathlib.Omega.{arith}
use lib.Ieee.{nan, binary64, of_bits}
use lib.Ieee.Scale.{finite}
use lib.ListN.{length, get_or}
use Rattle.float.proofs.Bits.{nan_word_lem}
use Rattle.std.specs.Prelude.{Ok}
use Rattle.refusal.specs.Panel.{max_vertices}
use Rattle.refusal.proofs.Panel.{named}
use Rattle.mesh.specs.Mesh.{mesh_of}
use Rattle.mesh.specs.Blocks.{cells_in, coordinate_of, name_of, no_name}
use Rattle.mesh.specs.Writer.{Content, Valid, fit_in, cell_numbers, points_block, cells_block}
use Rattle.mesh.specs.declared.Mesh.{Mesh}
use Rattle.mesh.proofs.Bytes.{spelled_at}
use Rattle.mesh.proofs.CellsAndTypes.{names_past}
use Rattle.mesh.proofs.ContentText.{points_size, cells_size, four_numbers, numbers_fit}
use Rattle.mesh.proofs.Accepted.{read_is_written, cells_written}
use Rattle.mesh.proofs.HandedBack.{coordinate_there, coordinate_outside, name_there, name_outside}

module _ (c : Content) (valid : Valid c) where
  -- so many points and triangles the blocks have
  pub points_count_lem : length (points_block c) / 24 ≡ c.n
  points_count_lem = omega (arith, points_size c valid)

  pub cells_count : length (cells_block c) / 16 ≡ c.m
  cells_count = omega (arith, cells_size c valid)

  -- THE theorem of `coordinate`
  pub coordinate_written : (point axis : ℕ) → point < c.n → axis < 3 → coordinate_of (points_block c) point axis ≡ of_bits binary64 (get_or c.points (3 * point + axis) 0)
  coordinate_written point axis h k =
      let place : 24 * point + 8 * axis ≡ 8 * (3 * point + axis) = omega arith in
      sym (coordinate_there (points_block c) point axis (rw points_count_lem h) k)
      ∙ rw place (ap (of_bits binary64) (spelled_at 8 c.points (3 * point + axis) valid.patterns (omega (arith, valid.three_coordinates))))

  -- THE theorem of `name`
  pub name_written : (triangle corner : ℕ) → triangle < c.m → corner < 3 → name_of (cells_block c) triangle corner ≡ get_or c.triangles (3 * triangle + corner) 0
  name_written triangle corner h k =
      let place : 16 * triangle + 4 * (1 + corner) ≡ 4 * (4 * triangle + (1 + corner)) = omega arith in
      sym (name_there (cells_block c) triangle corner (rw cells_count h) k)
      ∙ rw place (spelled_at 4 (cell_numbers c.triangles) (4 * triangle + (1 + corner)) (numbers_fit c valid) (omega (arith, four_numbers c valid)))
      ∙ names_past c.triangles triangle corner (omega (arith, valid.three_names)) k

-- the names of an accepted file are names of its points
pub names_below_lem : (f : List ℕ) → fit_in 1 f ≡ true → (mesh : Mesh) → mesh_of f ≡ Ok mesh
    → (triangle corner : ℕ) → triangle < mesh.m → corner < 3 → name_of (cells_in f (mesh_of f)) triangle corner < mesh.n
names_below_lem f bytes mesh e triangle corner h k =
    let (c, valid, written, same_n, same_m, _, _, _) = read_is_written f bytes mesh e in
    rw (written, cells_written c valid, name_written c valid triangle corner (omega arith) k)
    (omega (arith, named c.n c.triangles valid.named (3 * triangle + corner) (omega (arith, valid.three_names))))

-- a block, of any bytes, that has no such number
pub no_coordinate : (points : List ℕ) (point axis : ℕ) → (length points / 24 ≤ point) ⊎ (3 ≤ axis)
    → (coordinate_of points point axis ≡ nan) × (finite (coordinate_of points point axis) ≡ false)
no_coordinate points point axis h =
    let is : coordinate_of points point axis ≡ nan = sym (coordinate_outside points point axis h) ∙ nan_word_lem binary64 in
    (is, rw is)

pub no_vertex : (cells : List ℕ) (triangle corner : ℕ) → (length cells / 16 ≤ triangle) ⊎ (3 ≤ corner)
    → (name_of cells triangle corner ≡ no_name) × (max_vertices < name_of cells triangle corner)
no_vertex cells triangle corner h =
    let is : name_of cells triangle corner ≡ no_name = sym (name_outside cells triangle corner h) in
    (is, rw is (omega arith))
