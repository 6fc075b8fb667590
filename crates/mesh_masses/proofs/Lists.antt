-- The lists that blocks stand for: how long they are, what stands at a place, and what one more triangle changes.
use mathlib.Core.Path.{◌≡◌, refl, sym, ◌∙◌}
use mathlib.Core.Bool.{Bool, true, ◌&&◌, and_assoc, and-true}
use mathlib.Core.List.{List, [], ◌∷◌, ◌++◌}
use mathlib.Core.Logic.{inl}
use Prim.Native.Nat.{ℕ, zero, suc, ◌+◌, ◌*◌, ◌/◌, ◌%◌, ◌≤◌, ◌<◌}
use native.Mathlib.Nat.{not-suc-le-zero, lt_of_not-le, mul-le-mul_right}
use native.Mathlib.Decide.{dec_le}
use native.Mathlib.Numerals.{add-one}
use native.Mathlib.Omega.{arith}
use lib.Ieee.{Float, nan}
use lib.ListN.{length, get_or, length-append, get_or-eq_default, get_or-append}
use lib.Seq.{get_or-append-add, get_or_at}
use Rattle.float.specs.Lists.{◌!◌, every, table, each, fold_threes, map_threes}
use Rattle.float.proofs.Fill.{table_length}
use Rattle.float.proofs.Scan.{every_append}
use Rattle.mesh.specs.Blocks.{name_of, coordinate_of}
use Rattle.mesh.proofs.Feeding.{no_coordinate}
use Rattle.refusal.specs.Panel.{bad_length_of, names_below}
use Rattle.refusal.proofs.Panel.{named}
use Rattle.places.specs.Plane.{vertices_of, point_at}
use Rattle.mesh_masses.specs.Blocks.{names_in, xy_in}

module _ {A : Type 0} (f : ℕ → A) where
  table_at : (n k : ℕ) (d : A) → k < n → get_or (table n f) k d ≡ f k
  unfolding table
  table_at zero k d h = absurd (not-suc-le-zero h)
  table_at (suc n) k d h = by (dec_le n k) (table_at n k d)
    where
      by : Dec (n ≤ k) → (k < n → get_or (table n f) k d ≡ f k) → get_or (table n f ++ f n ∷ []) k d ≡ f k
      by (yes g) before = let e : k ≡ n = omega arith in rw e (get_or_at (table n f) (f n) [] d n (table_length f n))
      by (no g) before = let b : k < n = lt_of_not-le g in get_or-append (table n f) (f n ∷ []) d k (omega (arith, table_length f n)) ∙ before b

-- w in a row
module _ {A : Type 0} (f : ℕ → ℕ → A) (w : ℕ) where
  abbrev pub rows : ℕ → List A
  rows n = each n (λ i. table w (f i))

  rows_length : (n : ℕ) → length (rows n) ≡ n * w
  unfolding each
  rows_length zero = omega arith
  rows_length (suc n) = length-append (rows n) (table w (f n)) ∙ omega (arith, rows_length n, table_length (f n) w)

  rows_at : (n i k : ℕ) (d : A) → i < n → k < w → get_or (rows n) (i * w + k) d ≡ f i k
  unfolding each
  rows_at zero i k d h l = absurd (not-suc-le-zero h)
  rows_at (suc n) i k d h l = by (dec_le n i) (rows_at n i k d)
    where
      by : Dec (n ≤ i) → (i < n → k < w → get_or (rows n) (i * w + k) d ≡ f i k) → get_or (rows n ++ table w (f n)) (i * w + k) d ≡ f i k
      by (yes g) before = let e : i ≡ n = omega arith in rw (e, ← rows_length n) (get_or-append-add (rows n) (table w (f n)) k d ∙ table_at (f n) w k d l)
      by (no g) before =
          let b : i < n = lt_of_not-le g in
          get_or-append (rows n) (table w (f n)) d (i * w + k) (omega (arith, rows_length n, mul-le-mul_right w b)) ∙ before b l

-- three at a time, of two lists one after the other
threes_append : {A B : Type 0} (g : B → A → A → A → B) (l m : List A) (b : B) → length l % 3 ≡ 0 → fold_threes g b (l ++ m) ≡ fold_threes g (fold_threes g b l) m
unfolding fold_threes
threes_append g (x ∷ y ∷ z ∷ l) m b h = threes_append g l m (g b x y z) (omega arith)
threes_append g (x ∷ y ∷ []) m b h = absurd (omega arith)
threes_append g (x ∷ []) m b h = absurd (omega arith)
threes_append g [] m b h = refl

map_append : {A B : Type 0} (g : A → A → A → B) (l m : List A) → length l % 3 ≡ 0 → map_threes g (l ++ m) ≡ map_threes g l ++ map_threes g m
unfolding map_threes
map_append g (x ∷ y ∷ z ∷ l) m h = rw (map_append g l m (omega arith))
map_append g (x ∷ y ∷ []) m h = absurd (omega arith)
map_append g (x ∷ []) m h = absurd (omega arith)
map_append g [] m h = refl

-- one more row of three: in a test of each element, in a test of one for three, and in a fold
module _ {A : Type 0} (f : ℕ → ℕ → A) (n : ℕ) where
  threes : length (rows f 3 n) % 3 ≡ 0
  threes = omega (arith, rows_length f 3 n)

  pub every_more : (p : A → Bool) → every p (rows f 3 (n + 1)) ≡ (every p (rows f 3 n) && (p (f n 0) && p (f n 1) && p (f n 2)))
  unfolding every each table
  every_more p = rw (add-one, every_append p (rows f 3 n) (table 3 (f n)), and-true (p (f n 2)), and_assoc)

  pub test_more : {B : Type 0} (g : A → A → A → B) (p : B → Bool)
      → every p (map_threes g (rows f 3 (n + 1))) ≡ (every p (map_threes g (rows f 3 n)) && p (g (f n 0) (f n 1) (f n 2)))
  unfolding every each table map_threes
  test_more g p = rw (add-one, map_append g (rows f 3 n) (table 3 (f n)) threes, every_append p (map_threes g (rows f 3 n)) (map_threes g (table 3 (f n))), and-true (p (g (f n 0) (f n 1) (f n 2))))

  pub fold_more : {B : Type 0} (g : B → A → A → A → B) (b : B) → fold_threes g b (rows f 3 (n + 1)) ≡ g (fold_threes g b (rows f 3 n)) (f n 0) (f n 1) (f n 2)
  unfolding each table fold_threes
  fold_more g b = rw (add-one, threes_append g (rows f 3 n) (table 3 (f n)) b threes)

module _ (cells : List ℕ) where
  pub names_rows : names_in cells ≡ rows (name_of cells) 3 (length cells / 16)
  unfolding names_in
  names_rows = refl

  pub names_length : length (names_in cells) ≡ length cells / 16 * 3
  unfolding names_in
  names_length = rows_length (name_of cells) 3 (length cells / 16)

  pub name_at : (t k : ℕ) → t < length cells / 16 → k < 3 → get_or (names_in cells) (t * 3 + k) 0 ≡ name_of cells t k
  unfolding names_in
  name_at t k h l = rows_at (name_of cells) 3 (length cells / 16) t k 0 h l

  pub name_below : (count : ℕ) → names_below count (names_in cells) ≡ true → (t k : ℕ) → t < length cells / 16 → k < 3 → name_of cells t k < count
  name_below count e t k h l = rw (name_at t k h l) at (named count (names_in cells) e (t * 3 + k) (omega (arith, names_length)))

module _ (points : List ℕ) where
  pub xy_length : length (xy_in points) ≡ length points / 24 * 2
  unfolding xy_in
  xy_length = rows_length (coordinate_of points) 2 (length points / 24)

  pub vertices : vertices_of (xy_in points) ≡ length points / 24
  vertices = omega (arith, xy_length)

  pub number_at : (i k : ℕ) → k < 2 → xy_in points ! (i * 2 + k) ≡ coordinate_of points i k
  unfolding xy_in
  number_at i k h = by (dec_le (length points / 24) i)
    where
      by : Dec (length points / 24 ≤ i) → xy_in points ! (i * 2 + k) ≡ coordinate_of points i k
      by (yes g) = get_or-eq_default (xy_in points) nan (omega (arith, xy_length)) ∙ sym (no_coordinate points i k (inl g)).0
      by (no g) = rows_at (coordinate_of points) 2 (length points / 24) i k nan (lt_of_not-le g) h

  pub point_there : (i : ℕ) {x y : Float} → x ≡ coordinate_of points i 0 → y ≡ coordinate_of points i 1 → record { x = x; y = y } ≡ point_at (xy_in points) i
  point_there i e g =
      let z : i * 2 ≡ i * 2 + 0 = omega arith in
      rw (e, g, ← number_at i 0 (omega arith), ← number_at i 1 (omega arith), ← z)

pub lengths : (points cells : List ℕ) (places : ℕ) → bad_length_of (length points / 24) (length cells / 16 * 3) places ≡ bad_length_of (vertices_of (xy_in points)) (length (names_in cells)) places
lengths points cells places = rw (vertices points, names_length cells)
