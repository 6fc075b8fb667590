-- A line is compared piece by piece: it is the same as comparing it whole.
use mathlib.Core.Path.{◌≡◌, refl, ◌∙◌, ap}
use mathlib.Core.Bool.{Bool, true, false, cond}
use mathlib.Core.List.{List, [], ◌∷◌, ◌++◌, append_assoc, append-nil}
use Prim.Native.Nat.{ℕ, ◌+◌, ◌*◌}
use lib.Dec.{eqb, leb}
use lib.ListN.{drop}
use lib.Seq.{drop-drop}
use Rattle.std.specs.Prelude.{Ok, Err}
use Rattle.float.specs.Text.{ascii}
use Rattle.refusal.specs.Panel.{max_vertices, max_triangles}
use Rattle.mesh.specs.Text.{newline, count, points_line, cells_line, types_line}
use Rattle.mesh.specs.Items.{Step, same, line, digits, counted, counted_as, after}

-- the pieces ws, of a line of this value that begins at `start`
abbrev pub pieces : (f : List ℕ) (value start : ℕ) (ws : List (List ℕ)) (at : ℕ) → Step
pieces f value start [] at = Ok (value, at)
pieces f value start (w ∷ ws) at = after (same 0 start w at (drop at f)) (λ _ here. pieces f value start ws here)

-- the line of the pieces ws
abbrev pub joined : List (List ℕ) → List ℕ
joined [] = []
joined (w ∷ ws) = w ++ joined ws

module _ (f : List ℕ) (value start : ℕ) where
  -- in what is left of the file from `at` on, s, a first piece and what follows it
  one : (w more : List ℕ) (next : ℕ → Step) (at : ℕ) (s : List ℕ) → s ≡ drop at f → ((here : ℕ) → same value start more here (drop here f) ≡ next here)
      → same value start (w ++ more) at s ≡ after (same 0 start w at s) (λ _ here. next here)
  unfolding same after
  one [] more next at s e h = rw e (h at)
  one (b ∷ w) more next at [] e h = refl
  one (b ∷ w) more next at (c ∷ s) e h = by (one w more next (at + 1) s (ap (drop 1) e ∙ drop-drop 1 at f) h) (eqb c b)
    where
      by : same value start (w ++ more) (at + 1) s ≡ after (same 0 start w (at + 1) s) (λ _ here. next here)
          → (t : Bool) → cond t (same value start (w ++ more) (at + 1) s) (Err start) ≡ after (cond t (same 0 start w (at + 1) s) (Err start)) (λ _ here. next here)
      by ih true = ih
      by ih false = refl

  pub in_pieces : (ws : List (List ℕ)) (at : ℕ) → same value start (joined ws) at (drop at f) ≡ pieces f value start ws at
  unfolding same
  in_pieces [] at = refl
  in_pieces (w ∷ ws) at = one w (joined ws) (pieces f value start ws) at (drop at f) refl (in_pieces ws)

module _ (f : List ℕ) (at n : ℕ) where
  pub points_in_pieces : n ≡ digits 0 (drop (at + 7) f)
      → counted points_line 7 max_vertices at (drop at f) ≡ cond (leb n max_vertices) (pieces f n at (ascii "POINTS " ∷ count n ∷ ascii " double\n" ∷ []) at) (Err at)
  unfolding counted counted_as points_line
  points_in_pieces e =
      let whole : points_line n ≡ joined (ascii "POINTS " ∷ count n ∷ ascii " double\n" ∷ []) = simp (append_assoc, append-nil) in
      rw (drop-drop 7 at f, ← e, whole, in_pieces f n at)

  pub cells_in_pieces : n ≡ digits 0 (drop (at + 6) f)
      → counted cells_line 6 max_triangles at (drop at f) ≡ cond (leb n max_triangles) (pieces f n at (ascii "CELLS " ∷ count n ∷ ascii " " ∷ count (4 * n) ∷ newline ∷ []) at) (Err at)
  unfolding counted counted_as cells_line
  cells_in_pieces e =
      let whole : cells_line n ≡ joined (ascii "CELLS " ∷ count n ∷ ascii " " ∷ count (4 * n) ∷ newline ∷ []) = simp (append_assoc, append-nil) in
      rw (drop-drop 6 at f, ← e, whole, in_pieces f n at)

  pub types_in_pieces : line 0 (types_line n) at (drop at f) ≡ pieces f 0 at (ascii "CELL_TYPES " ∷ count n ∷ newline ∷ []) at
  unfolding types_line
  types_in_pieces =
      let whole : types_line n ≡ joined (ascii "CELL_TYPES " ∷ count n ∷ newline ∷ []) = simp (append_assoc, append-nil) in
      rw (whole, in_pieces f 0 at)
