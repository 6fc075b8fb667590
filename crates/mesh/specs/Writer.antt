-- The other side: the file that says a mesh, written out. A file is accepted exactly if it is one of these (proofs/Accepted.antt).
use Rattle.std.specs.Prelude.{◌≡◌, Bool, true, not, List, [], ◌∷◌, ◌++◌, ℕ, zero, suc, ◌+◌, ◌*◌, ◌/◌, ◌%◌, ◌^◌, ◌≤◌, ltb, eqb, length, replicate}
use Rattle.float.specs.Lists.{every}
use Rattle.refusal.specs.Panel.{max_vertices, max_triangles, names_below}
use Rattle.mesh.specs.Text.{newline, version_line, binary_line, dataset_line, points_line, cells_line, types_line}
use Rattle.mesh.specs.declared.Mesh.{Mesh}

-- what a file says: a title; n points, three coordinates each, as patterns of 64 bits; m triangles, three names each
pub record Content : Type 0 where
  pub title : List ℕ
  pub n : ℕ
  pub points : List ℕ
  pub m : ℕ
  pub triangles : List ℕ

-- each number fits in w bytes
abbrev pub fit_in : (w : ℕ) → List ℕ → Bool
fit_in w xs = every (λ x. ltb x (256 ^ w)) xs

-- the limits and lengths; a title may hold every byte but the newline
pub record Valid (c : Content) : Type 0 where
  pub title_bytes : fit_in 1 c.title ≡ true
  pub title_line : every (λ b. not (eqb b 10)) c.title ≡ true
  pub title_short : length c.title + 1 ≤ 256
  pub few_points : c.n ≤ max_vertices
  pub three_coordinates : length c.points ≡ 3 * c.n
  pub patterns : fit_in 8 c.points ≡ true
  pub few_triangles : c.m ≤ max_triangles
  pub three_names : length c.triangles ≡ 3 * c.m
  pub named : names_below c.n c.triangles ≡ true

-- x in w bytes, the highest first
unfoldable pub bytes : (w x : ℕ) → List ℕ
bytes zero x = []
bytes (suc w) x = bytes w (x / 256) ++ ((x % 256) ∷ [])

unfoldable pub spell : (w : ℕ) → List ℕ → List ℕ
spell w [] = []
spell w (x ∷ xs) = bytes w x ++ spell w xs

-- 3 a b c for each triangle
unfoldable pub cell_numbers : List ℕ → List ℕ
cell_numbers (a ∷ b ∷ c ∷ more) = 3 ∷ a ∷ b ∷ c ∷ cell_numbers more
cell_numbers (a ∷ b ∷ []) = []
cell_numbers (a ∷ []) = []
cell_numbers [] = []

module _ (c : Content) where
  -- up to each block, and the block
  unfoldable pub before_points : List ℕ
  before_points = version_line ++ (c.title ++ newline) ++ binary_line ++ dataset_line ++ points_line c.n

  abbrev pub points_block : List ℕ
  points_block = spell 8 c.points

  unfoldable pub before_cells : List ℕ
  before_cells = before_points ++ points_block ++ newline ++ cells_line c.m

  abbrev pub cells_block : List ℕ
  cells_block = spell 4 (cell_numbers c.triangles)

  unfoldable pub before_types : List ℕ
  before_types = before_cells ++ cells_block ++ newline ++ types_line c.m

  abbrev pub types_block : List ℕ
  types_block = spell 4 (replicate c.m 5)

  -- the file
  unfoldable pub encode : List ℕ
  encode = before_types ++ types_block ++ newline

-- f is a valid content written out, with these counts and its blocks at these places
abbrev pub Written : (f : List ℕ) (mesh : Mesh) → Type 0
Written f mesh =
    (c : Content) × Valid c × (f ≡ encode c) × (c.n ≡ mesh.n) × (c.m ≡ mesh.m)
    × (length (before_points c) ≡ mesh.points) × (length (before_cells c) ≡ mesh.cells) × (length (before_types c) ≡ mesh.types)
