-- What an exported kernel gives: its answer's number is returned, and the lent array holds the answer's values one after the other, whatever was in it.
-- The answer is the one that the kernel's own statement names, with +0 throughout after a refusal (01-scope 2.1). A material crosses as a word and four numbers (5.11; `material_of`).
use Rattle.std.specs.Prelude.{◌≡◌, cond, Result, Ok, Err, List, [], ◌∷◌, ◌++◌, ℕ, ◌*◌, eqb, Float}
use Rattle.std.specs.Float.{Format}
use Rattle.refusal.specs.Refusal.{accepted}
use Rattle.material.specs.declared.Material.{Material}
use Rattle.corners.specs.Plane as plane
use Rattle.corners.specs.Space as space
use Rattle.quadratic_bending.specs.Bending as bending
use Rattle.stvk_tri3.specs.GreenLagrange.{green_lagrange_of}
use Rattle.stvk_tri3.specs.Strain as strain
use Rattle.stvk_tri3.specs.Stvk.{stvk_of}
use Rattle.mitc_tri3.specs.Plate.{plate_of}
use Rattle.skin.specs.Skin.{IsSkin}
use Rattle.values.specs.Values.{GivesBending, GivesStrain, GivesEnergy}
use Rattle.mesh.specs.Mesh.{mesh_of, number_of, values_of}
use Rattle.mesh.specs.declared.Mesh.{Mesh}

-- THE statement of `del_fem_version`: 1000 times the major number and the minor one
abbrev pub version : ℕ
version = 3000

module _ (f : Format) where
  -- THE statement of `del_fem_quadratic_bending_wdw` (01-scope 5.6)
  abbrev pub IsBendingExport : (p_ini p_def : List (List Float)) (r : ℕ) (values : List Float) → Type 0
  IsBendingExport p_ini p_def = GivesBending (bending.answer_of f (bending.corners_of p_ini) (bending.corners_of p_def))

  -- THE statement of `del_fem_stvk_tri3_wdw` (01-scope 5.4)
  abbrev pub IsStrainExport : (p_ini p_def : List (List Float)) (r : ℕ) (values : List Float) → Type 0
  IsStrainExport p_ini p_def = GivesStrain (strain.ported_of f (plane.corners_of p_ini) (space.corners_of p_def))

  -- THE statement of `del_fem_stvk_tri3_wdw_green_lagrange` (01-scope 5.10)
  abbrev pub IsGreenLagrangeExport : (p_ini p_def : List (List Float)) (r : ℕ) (values : List Float) → Type 0
  IsGreenLagrangeExport p_ini p_def = GivesStrain (green_lagrange_of f (plane.corners_of p_ini) (space.corners_of p_def))

  -- THE statement of `del_fem_stvk_tri3_wdwddw_` (01-scope 5.5)
  abbrev pub IsStvkExport : (p0 p1 : List (List Float)) (material : Material) (r : ℕ) (values : List Float) → Type 0
  IsStvkExport p0 p1 material = GivesEnergy (stvk_of f (space.corners_of p0) (space.corners_of p1) material.stiffness)

  -- THE statement of `del_fem_mitc_tri3_w_dw_ddw_plate_bending` (01-scope 5.2)
  abbrev pub IsPlateExport : (p u : List (List Float)) (material : Material) (r : ℕ) (values : List Float) → Type 0
  IsPlateExport p u material = GivesEnergy (plate_of f (plane.corners_of p) (space.corners_of u) material.thickness material.stiffness)

  -- THE statement of `del_fem_skin_wdw` (01-scope 5.8, 2.5): the number, the place and the energy are those of skin's own answer
  abbrev pub IsSkinExport : (vtx2ini vtx2def : List Float) (tri2vtx : List ℕ) (material : Material) (before : List Float) (r place : ℕ) (w : Float) (after : List Float) → Type 0
  IsSkinExport vtx2ini vtx2def tri2vtx material before r place w = IsSkin f vtx2ini vtx2def tri2vtx material before (record { number = r; place = place; w = w })

-- n, m and place, from the number and the values that mesh's own definitions give an answer: the counts and 0, or no counts and the place
abbrev pub lent_of : (number : ℕ) (values : List ℕ) → List ℕ
lent_of number values = cond (eqb number accepted) (values ++ (0 ∷ [])) (0 ∷ 0 ∷ values)

-- THE statement of `del_fem_mesh_read` (01-scope 5.9, 2.6)
abbrev pub IsMeshExport : (file : List ℕ) (r n m place : ℕ) → Type 0
IsMeshExport file r n m place = (r ≡ number_of (mesh_of file)) × (n ∷ m ∷ place ∷ [] ≡ lent_of (number_of (mesh_of file)) (values_of (mesh_of file)))

-- where a block begins and how many bytes it has; of a refused file the place, and no byte. A point has 24 bytes, a cell 16
abbrev pub points_at : Result Mesh ℕ → ℕ × ℕ
points_at (Ok mesh) = (mesh.points, 24 * mesh.n)
points_at (Err place) = (place, 0)

abbrev pub cells_at : Result Mesh ℕ → ℕ × ℕ
cells_at (Ok mesh) = (mesh.cells, 16 * mesh.m)
cells_at (Err place) = (place, 0)

abbrev pub GivesBlock : (at : Result Mesh ℕ → ℕ × ℕ) (file : List ℕ) (r place length : ℕ) → Type 0
GivesBlock at file r place length = (r ≡ number_of (mesh_of file)) × (place ≡ (at (mesh_of file)).0) × (length ≡ (at (mesh_of file)).1)

-- THE statements of `del_fem_mesh_points` and `del_fem_mesh_cells` (01-scope 5.9): the bytes there are what mesh's own `points` and `cells` hand back (proofs/MeshBlocks.antt)
abbrev pub IsPointsExport : (file : List ℕ) (r place length : ℕ) → Type 0
IsPointsExport = GivesBlock points_at

abbrev pub IsCellsExport : (file : List ℕ) (r place length : ℕ) → Type 0
IsCellsExport = GivesBlock cells_at
