-- What the reader answers, and of a refused file which part is wrong (01-scope 5.9, 2.6).
use Rattle.std.specs.Prelude.{◌≡◌, Result, Ok, Err, List, ℕ}
use Rattle.mesh.specs.Items.{Step}
use Rattle.mesh.specs.Mesh.{mesh, points_from, cells_from, types_from, end_from}
use Rattle.mesh.specs.declared.Mesh.{Mesh}
use Rattle.mesh.specs.declared.Misread.{Misread}
use Rattle.mesh.specs.declared.Misread.TheVariants.{InLines, InPoints, InCells, InTypes}

-- what is found after a part of the file, given its value and the place after it, or the place that is refused in it
unfoldable pub found : (bad : ℕ → Misread) → Step → (ℕ → ℕ → Result Mesh Misread) → Result Mesh Misread
found bad (Ok (value, at)) more = more value at
found bad (Err place) more = Err (bad place)

module _ (f : List ℕ) where
  unfoldable pub found_of : Result Mesh Misread
  found_of =
      found InLines (points_from f) (λ n points. found (InPoints n points) (cells_from f n points) (λ m cells. found (InCells n m cells) (types_from f n m cells)
      (λ _ types. found (InTypes m types) (end_from f m types) (λ _ _. Ok (mesh n m points cells types)))))

-- the place of what is wrong first
abbrev pub place_of : Misread → ℕ
place_of (InLines place) = place
place_of (InPoints n at place) = place
place_of (InCells n m at place) = place
place_of (InTypes m at place) = place

-- THE statements of `read_parts` and `Misread::place`
abbrev pub IsFound : (f : List ℕ) (r : Result Mesh Misread) → Type 0
IsFound f r = r ≡ found_of f

abbrev pub IsPlace : (misread : Misread) (r : ℕ) → Type 0
IsPlace misread r = r ≡ place_of misread
