-- The rules for a mesh file's lines and for its blocks of numbers (01-scope 2.6), the same for all of them, whatever is right there.
use Rattle.std.specs.Prelude.{◌≡◌, true, false, not, Ok, Err, List, ◌++◌, ◌⊎◌, ℕ, ◌+◌, ◌*◌, ◌≤◌, ◌<◌, eqb, length, take, drop}
use Rattle.float.specs.Lists.{every}
use Rattle.float.specs.Numbers.{big_endian}
use Rattle.refusal.specs.Panel.{max_vertices, max_triangles}
use Rattle.mesh.specs.Text.{newline, points_line, cells_line}
use Rattle.mesh.specs.Items.{Step, right}
use Rattle.mesh.specs.declared.Rule.{Rule}

-- `Right v w`: the bytes w are a right line, newline and all, and v is its value. Of the line t:
abbrev pub RightLine : (value : ℕ) (t : List ℕ) (v : ℕ) (w : List ℕ) → Type 0
RightLine value t v w = (v ≡ value) × (w ≡ t)

-- of the title: any bytes but a newline, and a newline, 256 bytes at most
abbrev pub RightTitle : (v : ℕ) (w : List ℕ) → Type 0
RightTitle v w = (v ≡ 0) × (t : List ℕ) × (every (λ b. not (eqb b 10)) t ≡ true) × (length t + 1 ≤ 256) × (w ≡ t ++ newline)

-- of `POINTS n double` and `CELLS m 4m`: their counts are their values
abbrev pub RightPoints : (v : ℕ) (w : List ℕ) → Type 0
RightPoints v w = (v ≤ max_vertices) × (w ≡ points_line v)

abbrev pub RightCells : (v : ℕ) (w : List ℕ) → Type 0
RightCells v w = (v ≤ max_triangles) × (w ≡ cells_line v)

-- a line is looked for in what is left of the file, s: of these three one holds
module _ (Right : (v : ℕ) (w : List ℕ) → Type 0) (s : List ℕ) where
  -- a right line stands there
  abbrev pub Stands : Type 0
  Stands = (v : ℕ) × (w : List ℕ) × (rest : List ℕ) × Right v w × (s ≡ w ++ rest)

  -- a right line begins so, and the file ends before its end
  abbrev pub Begins : Type 0
  Begins = (v : ℕ) × (more : List ℕ) × Right v (s ++ more) × (0 < length more)

  -- neither
  abbrev pub Wrong : Type 0
  Wrong = (Stands → ⊥) × (Begins → ⊥)

  abbrev pub OneOf : Type 0
  OneOf = Stands ⊎ (Begins ⊎ Wrong)

-- what is answered for a line at the place `at`: one of three things, by one of three premises
pub record LineRule (Right : (v : ℕ) (w : List ℕ) → Type 0) (at : ℕ) (s : List ℕ) (r : Step) : Type 0 where
  pub right : (v : ℕ) (w rest : List ℕ) → Right v w → s ≡ w ++ rest → r ≡ Ok (v, at + length w)
  -- an early end: at the file's length
  pub cut_short : (v : ℕ) (more : List ℕ) → Right v (s ++ more) → 0 < length more → r ≡ Err (at + length s)
  -- a wrong line: at its first byte
  pub wrong : Wrong Right s → r ≡ Err at
  pub one_of : OneOf Right s

-- number i of those that s begins with, w bytes each
abbrev pub number_at : (w i : ℕ) (s : List ℕ) → ℕ
number_at w i s = big_endian (take w (drop (w * i) s))

-- k numbers are looked for in what is left of the file, s: of these three one holds
module _ (rule : Rule) (w : ℕ) (s : List ℕ) where
  -- the numbers before number j are there, and right
  abbrev pub RightUpTo : (j : ℕ) → Type 0
  RightUpTo j = (w * j ≤ length s) × ((i : ℕ) → i < j → right rule i (number_at w i s) ≡ true)

  -- and number j is there whole, and wrong
  abbrev pub WrongAt : (j : ℕ) → Type 0
  WrongAt j = RightUpTo j × (w * (j + 1) ≤ length s) × (right rule j (number_at w j s) ≡ false)

  -- and the file ends before number j's last byte, whatever its bytes are
  abbrev pub EndsIn : (j : ℕ) → Type 0
  EndsIn j = RightUpTo j × (length s < w * (j + 1))

  abbrev pub OneOfBlock : (k : ℕ) → Type 0
  OneOfBlock k = RightUpTo k ⊎ (((j : ℕ) × (j < k) × WrongAt j) ⊎ ((j : ℕ) × (j < k) × EndsIn j))

-- what is answered for k numbers at the place `at`: one of three things, by one of three premises
pub record BlockRule (rule : Rule) (w k at : ℕ) (s : List ℕ) (r : Step) : Type 0 where
  pub right : RightUpTo rule w s k → r ≡ Ok (0, at + w * k)
  -- a wrong number: at its first byte
  pub wrong : (j : ℕ) → j < k → WrongAt rule w s j → r ≡ Err (at + w * j)
  -- an early end: at the file's length
  pub cut_short : (j : ℕ) → j < k → EndsIn rule w s j → r ≡ Err (at + length s)
  pub one_of : OneOfBlock rule w s k
