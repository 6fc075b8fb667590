-- The lines of a mesh file (01-scope 5.9), as bytes.
use Rattle.std.specs.Prelude.{cond, List, [], ◌∷◌, ◌++◌, ℕ, ◌+◌, ◌*◌, ◌/◌, ◌%◌, ltb}
use Rattle.float.specs.Text.{ascii}

abbrev pub newline : List ℕ
newline = ascii "\n"

abbrev pub version_line : List ℕ
version_line = ascii "# vtk DataFile Version 3.0\n"

abbrev pub binary_line : List ℕ
binary_line = ascii "BINARY\n"

abbrev pub dataset_line : List ℕ
dataset_line = ascii "DATASET UNSTRUCTURED_GRID\n"

-- the digit of n that counts units of this size, where n has one
unfoldable pub digit : (n unit : ℕ) → List ℕ
digit n unit = cond (ltb n unit) [] ((48 + n / unit % 10) ∷ [])

-- n in decimal without leading zeros, of at most six digits
unfoldable pub count : (n : ℕ) → List ℕ
count n = digit n 100000 ++ digit n 10000 ++ digit n 1000 ++ digit n 100 ++ digit n 10 ++ ((48 + n % 10) ∷ [])

unfoldable pub points_line : (n : ℕ) → List ℕ
points_line n = ascii "POINTS " ++ count n ++ ascii " double\n"

unfoldable pub cells_line : (m : ℕ) → List ℕ
cells_line m = ascii "CELLS " ++ count m ++ ascii " " ++ count (4 * m) ++ newline

unfoldable pub types_line : (m : ℕ) → List ℕ
types_line m = ascii "CELL_TYPES " ++ count m ++ newline
