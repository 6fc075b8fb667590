-- The numbers of the cells are right exactly where they are 3 and three names below n, over and over; those of the types where each is 5.
use mathlib.Core.Path.{◌≡◌, refl, sym, ◌∙◌, ap}
use mathlib.Core.Bool.{true, ◌&&◌}
use mathlib.Core.List.{List, [], ◌∷◌}
use mathlib.Core.Logic.{◌↔◌}
use Prim.Native.Nat.{ℕ, zero, suc, ◌+◌, ◌*◌, ◌%◌, ◌^◌, ◌≤◌, ◌<◌}
use native.Mathlib.Omega.{arith}
use lib.Dec.{ltb, eqb}
use lib.ListN.{length, get_or, replicate}
use borrow.Author.Tests.{eqb-true, ltb-true, lt-ltb, ne_eqb}
use Rattle.float.specs.Lists.{every}
use Rattle.float.proofs.Scan.{both, every_same}
use Rattle.refusal.specs.Panel.{max_vertices, names_below}
use Rattle.mesh.specs.Items.{right}
use Rattle.mesh.specs.Writer.{fit_in, cell_numbers}
use Rattle.mesh.specs.declared.Rule.TheVariants.{Cell, Five}
use Rattle.mesh.proofs.Blocks.{right_from}

three_first : (n i x : ℕ) → i % 4 ≡ 0 → right (Cell n) i x ≡ eqb x 3
unfolding right
three_first n i x e = rw e

then_name : (n i x : ℕ) → (i % 4 ≡ 0 → ⊥) → right (Cell n) i x ≡ ltb x n
unfolding right
then_name n i x z = rw (ne_eqb _ _ z)

cell_right : (n i x a b c : ℕ) (xs : List ℕ) → i % 4 ≡ 0
    → right_from (Cell n) i (x ∷ a ∷ b ∷ c ∷ xs) ≡ (eqb x 3 && (ltb a n && (ltb b n && (ltb c n && right_from (Cell n) (i + 1 + 1 + 1 + 1) xs))))
unfolding right_from
cell_right n i x a b c xs e =
    rw (three_first n i x e, then_name n (i + 1) a (λ z. omega arith), then_name n (i + 1 + 1) b (λ z. omega arith), then_name n (i + 1 + 1 + 1) c (λ z. omega arith))

cells_right : (n i m : ℕ) (t : List ℕ) → i % 4 ≡ 0 → length t ≡ 3 * m → right_from (Cell n) i (cell_numbers t) ≡ names_below n t
unfolding cell_numbers every right_from
cells_right n i zero [] e l = refl
cells_right n i zero (a ∷ t) e l = absurd (omega arith)
cells_right n i (suc m) (a ∷ b ∷ c ∷ t) e l = rw (cell_right n i 3 a b c (cell_numbers t) e, cells_right n (i + 1 + 1 + 1 + 1) m t (omega arith) (omega arith))
cells_right n i (suc m) (a ∷ b ∷ []) e l = absurd (omega arith)
cells_right n i (suc m) (a ∷ []) e l = absurd (omega arith)
cells_right n i (suc m) [] e l = absurd (omega arith)

pub cell_numbers_length : (m : ℕ) (t : List ℕ) → length t ≡ 3 * m → length (cell_numbers t) ≡ 4 * m
unfolding cell_numbers
cell_numbers_length zero [] l = refl
cell_numbers_length zero (a ∷ t) l = absurd (omega arith)
cell_numbers_length (suc m) (a ∷ b ∷ c ∷ t) l = omega (arith, cell_numbers_length m t (omega arith))
cell_numbers_length (suc m) (a ∷ b ∷ []) l = absurd (omega arith)
cell_numbers_length (suc m) (a ∷ []) l = absurd (omega arith)
cell_numbers_length (suc m) [] l = absurd (omega arith)

right_cells : (n i m : ℕ) (xs : List ℕ) → i % 4 ≡ 0 → length xs ≡ 4 * m → right_from (Cell n) i xs ≡ true → (t : List ℕ) × (length t ≡ 3 * m) × (xs ≡ cell_numbers t)
unfolding cell_numbers
right_cells n i zero [] e l r = ([], refl, refl)
right_cells n i zero (x ∷ xs) e l r = absurd (omega arith)
right_cells n i (suc m) (x ∷ a ∷ b ∷ c ∷ xs) e l r =
    let p = both (eqb x 3) _ (sym (cell_right n i x a b c xs e) ∙ r) in
    let names = (both (ltb b n) _ (both (ltb a n) _ p.1).1).1 in
    let (t, three, same) = right_cells n (i + 1 + 1 + 1 + 1) m xs (omega arith) (omega arith) (both (ltb c n) _ names).1 in
    (a ∷ b ∷ c ∷ t, omega arith, more t (eqb-true x 3 p.0) same)
  where
    more : (t : List ℕ) → x ≡ 3 → xs ≡ cell_numbers t → x ∷ a ∷ b ∷ c ∷ xs ≡ 3 ∷ a ∷ b ∷ c ∷ cell_numbers t
    more t three same = rw (three, same)
right_cells n i (suc m) (x ∷ a ∷ b ∷ []) e l r = absurd (omega arith)
right_cells n i (suc m) (x ∷ a ∷ []) e l r = absurd (omega arith)
right_cells n i (suc m) (x ∷ []) e l r = absurd (omega arith)
right_cells n i (suc m) [] e l r = absurd (omega arith)

-- THE law of the cells
pub cells_exactly : (n m : ℕ) (xs : List ℕ) → length xs ≡ 4 * m
    → right_from (Cell n) 0 xs ≡ true ↔ ((t : List ℕ) × (length t ≡ 3 * m) × (names_below n t ≡ true) × (xs ≡ cell_numbers t))
cells_exactly n m xs l = (there, back)
  where
    there : right_from (Cell n) 0 xs ≡ true → (t : List ℕ) × (length t ≡ 3 * m) × (names_below n t ≡ true) × (xs ≡ cell_numbers t)
    there r =
        let (t, three, same) = right_cells n 0 m xs refl l r in
        (t, three, sym (cells_right n 0 m t refl three) ∙ rw same at r, same)

    back : (t : List ℕ) × (length t ≡ 3 * m) × (names_below n t ≡ true) × (xs ≡ cell_numbers t) → right_from (Cell n) 0 xs ≡ true
    back (t, three, below, same) = rw same (cells_right n 0 m t refl three ∙ below)

-- the names of a triangle, past its 3
pub names_past : (t : List ℕ) (triangle corner : ℕ) → 3 * triangle + 2 < length t → corner < 3
    → get_or (cell_numbers t) (4 * triangle + (1 + corner)) 0 ≡ get_or t (3 * triangle + corner) 0
unfolding cell_numbers
names_past (a ∷ b ∷ c ∷ t) zero zero h k = refl
names_past (a ∷ b ∷ c ∷ t) zero (suc zero) h k = refl
names_past (a ∷ b ∷ c ∷ t) zero (suc (suc zero)) h k = refl
names_past (a ∷ b ∷ c ∷ t) zero (suc (suc (suc corner))) h k = absurd (omega arith)
names_past (a ∷ b ∷ c ∷ t) (suc triangle) corner h k =
    let four : 4 * suc triangle + (1 + corner) ≡ suc (suc (suc (suc (4 * triangle + (1 + corner))))) = omega arith in
    let three : 3 * suc triangle + corner ≡ suc (suc (suc (3 * triangle + corner))) = omega arith in
    rw (four, three) (names_past t triangle corner (omega arith) k)
names_past (a ∷ b ∷ []) triangle corner h k = absurd (omega arith)
names_past (a ∷ []) triangle corner h k = absurd (omega arith)
names_past [] triangle corner h k = absurd (omega arith)

-- a name fits in four bytes, and so does 3
pub cells_fit : (n m : ℕ) (t : List ℕ) → n ≤ max_vertices → length t ≡ 3 * m → names_below n t ≡ true → fit_in 4 (cell_numbers t) ≡ true
unfolding cell_numbers every
cells_fit n zero [] h l e = refl
cells_fit n zero (a ∷ t) h l e = absurd (omega arith)
cells_fit n (suc m) (a ∷ b ∷ c ∷ t) h l e =
    let p = both (ltb a n) _ e in
    let q = both (ltb b n) _ p.1 in
    let r = both (ltb c n) _ q.1 in
    rw (fits a p.0, fits b q.0, fits c r.0) (cells_fit n m t h (omega arith) r.1)
  where
    fits : (x : ℕ) → ltb x n ≡ true → ltb x (256 ^ 4) ≡ true
    fits x e = lt-ltb x (256 ^ 4) (omega (arith, ltb-true x n e))
cells_fit n (suc m) (a ∷ b ∷ []) h l e = absurd (omega arith)
cells_fit n (suc m) (a ∷ []) h l e = absurd (omega arith)
cells_fit n (suc m) [] h l e = absurd (omega arith)

fives_right : (i m : ℕ) → right_from Five i (replicate m 5) ≡ true
unfolding right_from right
fives_right i zero = refl
fives_right i (suc m) = fives_right (i + 1) m

right_fives : (i : ℕ) (xs : List ℕ) → right_from Five i xs ≡ true → xs ≡ replicate (length xs) 5
unfolding right_from right
right_fives i [] r = refl
right_fives i (x ∷ xs) r =
    let p = both _ _ r in
    rw (eqb-true x 5 p.0) (ap (λ (l : List ℕ). 5 ∷ l) (right_fives (i + 1) xs p.1))

-- THE law of the types
pub types_exactly : (m : ℕ) (xs : List ℕ) → length xs ≡ m → right_from Five 0 xs ≡ true ↔ xs ≡ replicate m 5
types_exactly m xs l = ((λ r. rw l at (right_fives 0 xs r)), (λ e. rw e (fives_right 0 m)))

pub types_fit : (m : ℕ) → fit_in 4 (replicate m 5) ≡ true
types_fit m = every_same _ m 5 refl
