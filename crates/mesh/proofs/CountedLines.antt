-- The lines with a count follow the rule for lines: such a line is compared with the line of the count that its digits say, and a right one that is cut short is a beginning
-- of that line too.
use mathlib.Core.Path.{◌≡◌, refl, sym, ◌∙◌, ap}
use mathlib.Core.Bool.{Bool, true, false, cond}
use mathlib.Core.List.{List, [], ◌∷◌, ◌++◌, append_assoc, append-nil}
use mathlib.Core.Logic.{inl, inr}
use Prim.Native.Nat.{ℕ, ◌*◌, ◌≤◌, ◌<◌}
use native.Mathlib.Omega.{arith}
use lib.Dec.{leb}
use lib.ListN.{length, drop, length-append, drop_of_length-le}
use lib.Seq.{drop-nil, drop-append_seam}
use borrow.Author.Tests.{leb-true, leb-false, le-leb}
use Rattle.float.specs.Text.{ascii}
use Rattle.std.specs.Prelude.{Err}
use Rattle.refusal.specs.Panel.{max_vertices, max_triangles}
use Rattle.mesh.specs.Text.{newline, count, points_line, cells_line}
use Rattle.mesh.specs.Items.{Step, line, digits, counted_as, counted}
use Rattle.mesh.specs.Rules.{RightLine, RightPoints, RightCells, LineRule}
use Rattle.mesh.proofs.Item.{Texts, Whole, Cut, Item}
use Rattle.mesh.proofs.Cuts.{Cuts, cuts}
use Rattle.mesh.proofs.Counts.{digits_low, read_back, Begun, count_begun}
use Rattle.mesh.proofs.LineRule.{Says, takes, wants, refuses, taken, rule}
use Rattle.mesh.proofs.Lines.{line_says, line_item}

-- a space ends a count, and so does the end of what there is
digits_end : (n : ℕ) (w rest tail : List ℕ) → 32 ∷ tail ≡ w ++ rest → digits n w ≡ n
unfolding digits
digits_end n [] rest tail e = refl
digits_end n (c ∷ w) rest tail e = let space : c ≡ 32 = cc in digits_low n c w (omega arith)

-- lines of a word, a count, a space and more
module _ (text : ℕ → List ℕ) (word : List ℕ) (tail : ℕ → List ℕ) (made_of : (n : ℕ) → text n ≡ word ++ (count n ++ 32 ∷ tail n)) where
  -- the count that a line says so far
  abbrev said : (w : List ℕ) → ℕ
  said w = digits 0 (drop (length word) w)

  count_said : (n : ℕ) (rest : List ℕ) → n < 1000000 → digits 0 (drop (length word) (text n ++ rest)) ≡ n
  count_said n rest h =
      rw (made_of n, append_assoc word, drop-append_seam, append_assoc (count n), read_back n h) (digits_end n _ [] (tail n ++ rest) (sym (append-nil _)))

  -- w is a proper beginning of the line of the count that it says, which is at most n
  abbrev LineBegun : (n : ℕ) (w : List ℕ) → Type 0
  LineBegun n w = (said w ≤ n) × (more : List ℕ) × (text (said w) ≡ w ++ more) × (0 < length more)

  in_word : (n : ℕ) (w more : List ℕ) → word ≡ w ++ more → LineBegun n w
  unfolding digits
  in_word n w more e =
      let short : length w ≤ length word = omega (arith, ap length e, length-append w more) in
      rw (drop_of_length-le w short) (omega arith, more ++ (count 0 ++ 32 ∷ tail 0), rw (made_of 0, e, append_assoc), simp length-append (omega arith))

  in_count : (n : ℕ) (w : List ℕ) → Begun n w → LineBegun n (word ++ w)
  in_count n w begun =
      rw drop-append_seam
      (begun.0, begun.1 ++ 32 ∷ tail (digits 0 w), rw (made_of (digits 0 w), begun.2, append_assoc w, append_assoc), simp length-append (omega arith))

  in_tail : (n : ℕ) (w rest : List ℕ) → n < 1000000 → 32 ∷ tail n ≡ w ++ rest → 0 < length rest → LineBegun n (word ++ (count n ++ w))
  in_tail n w rest h e l =
      rw (drop-append_seam, read_back n h, digits_end n w rest _ e)
      (omega arith, rest, rw (made_of n, e, append_assoc, append_assoc), l)

  -- a line that is cut short
  line_begun : (n : ℕ) (w rest : List ℕ) → n < 1000000 → text n ≡ w ++ rest → 0 < length rest → LineBegun n w
  line_begun n w rest h e l = past_word (cuts word _ w rest (sym (made_of n) ∙ e))
    where
      past_count : (v : List ℕ) → w ≡ word ++ v → Cuts (count n) (32 ∷ tail n) v rest → LineBegun n w
      past_count v e (inl (more, g, k)) = rw e (in_count n v (count_begun n h v more g k))
      past_count v e (inr (more, g, k)) = rw (e, g) (in_tail n more rest h k l)

      past_word : Cuts word (count n ++ 32 ∷ tail n) w rest → LineBegun n w
      past_word (inl (more, e, k)) = in_word n w more e
      past_word (inr (v, e, k)) = past_count v e (cuts (count n) _ v rest k)

  module _ (limit : ℕ) (few : limit < 1000000) where
    abbrev Counted : Texts
    Counted v w = (v ≤ limit) × (w ≡ text v)

    abbrev item : (at : ℕ) (s : List ℕ) → Step
    item = counted text (length word) limit

    counted_whole : Whole Counted item
    unfolding counted counted_as
    counted_whole at v w rest (l, e) =
        rw (e, count_said v rest (omega arith), le-leb v limit l) ((line_item v (text v)).whole at v (text v) rest (refl, refl))

    counted_cut : Cut Counted item
    unfolding counted counted_as
    counted_cut at v w rest (l, e) h =
        let begun = line_begun v w rest (omega arith) (sym e) h in
        let k = said w in
        rw (le-leb k limit (omega (arith, begun.0))) ((line_item k (text k)).cut at k w begun.1 (refl, sym begun.2) begun.3)

    as_says : (at : ℕ) (s : List ℕ) (k : ℕ) → (limit < k → 0 < length s) → Says Counted at at s (counted_as text limit at s k)
    unfolding counted_as
    as_says at s k some = by (leb k limit) refl (line_says k (text k) at s)
      where
        by : (t : Bool) → leb k limit ≡ t → Says (RightLine k (text k)) at at s (line k (text k) at s) → Says Counted at at s (cond t (line k (text k) at s) (Err at))
        by true e (takes v w rest (ev, ew) g n) = takes v w rest (omega (arith, leb-true k limit e), ew ∙ ap text (sym ev)) g n
        by true e (wants v more (ev, ew) h n) = wants v more (omega (arith, leb-true k limit e), ew ∙ ap text (sym ev)) h n
        by true e (refuses h n) = refuses h n
        by false e _ = refuses (omega (arith, some (leb-false k limit e))) refl

    counted_says : (at : ℕ) (s : List ℕ) → Says Counted at at s (item at s)
    unfolding counted digits
    counted_says at s = as_says at s _ (some s)
      where
        some : (s : List ℕ) → limit < said s → 0 < length s
        some [] h = absurd (omega (arith, rw drop-nil at h))
        some (c ∷ s) h = omega arith

    counted_item : Item Counted item
    counted_item = record { whole = counted_whole; cut = counted_cut; taken = taken counted_says }

    counted_rule : (at : ℕ) (s : List ℕ) → LineRule Counted at s (item at s)
    counted_rule = rule counted_says counted_item

points_made_of : (n : ℕ) → points_line n ≡ ascii "POINTS " ++ (count n ++ 32 ∷ ascii "double\n")
unfolding points_line
points_made_of n = append_assoc (ascii "POINTS ") (count n) (ascii " double\n")

cells_made_of : (m : ℕ) → cells_line m ≡ ascii "CELLS " ++ (count m ++ 32 ∷ (count (4 * m) ++ newline))
unfolding cells_line
cells_made_of m = simp append_assoc

pub points_item : Item RightPoints (counted points_line 7 max_vertices)
points_item = counted_item points_line (ascii "POINTS ") (λ n. ascii "double\n") points_made_of max_vertices (omega arith)

pub points_rule : (at : ℕ) (s : List ℕ) → LineRule RightPoints at s (counted points_line 7 max_vertices at s)
points_rule = counted_rule points_line (ascii "POINTS ") (λ n. ascii "double\n") points_made_of max_vertices (omega arith)

pub cells_item : Item RightCells (counted cells_line 6 max_triangles)
cells_item = counted_item cells_line (ascii "CELLS ") (λ m. count (4 * m) ++ newline) cells_made_of max_triangles (omega arith)

pub cells_rule : (at : ℕ) (s : List ℕ) → LineRule RightCells at s (counted cells_line 6 max_triangles at s)
cells_rule = counted_rule cells_line (ascii "CELLS ") (λ m. count (4 * m) ++ newline) cells_made_of max_triangles (omega arith)
