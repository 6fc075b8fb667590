-- What the reader answers for every string of bytes f (01-scope 5.9, 2.6): the items in file order, up to the first that is refused.
use Rattle.std.specs.Prelude.{◌≡◌, Result, Ok, Err, List, [], ◌∷◌, ℕ, ◌*◌, drop}
use Rattle.refusal.specs.Refusal.{accepted, bad_file}
use Rattle.refusal.specs.Panel.{max_vertices, max_triangles}
use Rattle.mesh.specs.Text.{newline, version_line, binary_line, dataset_line, points_line, cells_line, types_line}
use Rattle.mesh.specs.Items.{Step, line, title, counted, block, numbers, end, after}
use Rattle.mesh.specs.declared.Rule.TheVariants.{Cell, Five}
use Rattle.mesh.specs.declared.Mesh.{Mesh}

abbrev pub mesh : (n m points cells types : ℕ) → Mesh
mesh n m points cells types = record { n = n; m = m; points = points; cells = cells; types = types }

module _ (f : List ℕ) where
  -- the four lines before `POINTS n double`, and that line: n, and where the points begin
  unfoldable pub points_from : Step
  points_from =
      after (line 0 version_line 0 f) (λ _ a. after (title a (drop a f)) (λ _ b. after (line 0 binary_line b (drop b f)) (λ _ c. after (line 0 dataset_line c (drop c f))
      (λ _ d. counted points_line 7 max_vertices d (drop d f)))))

  -- a block and the newline after it
  unfoldable pub closed : (block : Step) → Step
  closed block = after block (λ _ a. line 0 newline a (drop a f))

  -- the points, which are not looked at, and `CELLS m 4m`: m, and where the cells begin
  unfoldable pub cells_from : (n at : ℕ) → Step
  cells_from n at = after (closed (block (24 * n) at (drop at f))) (λ _ a. counted cells_line 6 max_triangles a (drop a f))

  -- the cells and `CELL_TYPES m`: where the types begin
  unfoldable pub types_from : (n m at : ℕ) → Step
  types_from n m at = after (closed (numbers (Cell n) 4 (4 * m) 0 at (drop at f))) (λ _ a. line 0 (types_line m) a (drop a f))

  -- the types and nothing more
  unfoldable pub end_from : (m at : ℕ) → Step
  end_from m at = after (closed (numbers Five 4 m 0 at (drop at f))) (λ _ a. end a (drop a f))

  unfoldable pub mesh_of : Result Mesh ℕ
  mesh_of =
      after points_from (λ n points. after (cells_from n points) (λ m cells. after (types_from n m cells) (λ _ types. after (end_from m types)
      (λ _ _. Ok (mesh n m points cells types)))))

-- 01-scope's number and values of an answer: 0, n and m; or 8 and the place
abbrev pub number_of : Result Mesh ℕ → ℕ
number_of (Ok mesh) = accepted
number_of (Err place) = bad_file

abbrev pub values_of : Result Mesh ℕ → List ℕ
values_of (Ok mesh) = mesh.n ∷ mesh.m ∷ []
values_of (Err place) = place ∷ []

-- THE statement of `read`
abbrev pub IsMesh : (f : List ℕ) (r : Result Mesh ℕ) → Type 0
IsMesh f r = r ≡ mesh_of f
