-- The parts of the reader, each a sequence of items, and the texts that are right for them: the lines up to the points; a block, its newline and the line after it; the types.
use mathlib.Core.Path.{◌≡◌, refl, sym, ◌∙◌}
use mathlib.Core.Bool.{true, not}
use mathlib.Core.List.{List, ◌++◌, append_assoc}
use Prim.Native.Nat.{ℕ, ◌+◌, ◌*◌, ◌≤◌}
use lib.Dec.{eqb}
use lib.ListN.{length, drop}
use Rattle.float.specs.Lists.{every}
use Rattle.refusal.specs.Panel.{max_vertices}
use Rattle.mesh.specs.Text.{newline, version_line, binary_line, dataset_line, points_line, types_line}
use Rattle.mesh.specs.Items.{line, title, counted, numbers, after}
use Rattle.mesh.specs.Rules.{RightLine, RightTitle, RightPoints, RightCells}
use Rattle.mesh.specs.Mesh.{points_from, closed, cells_from, types_from}
use Rattle.mesh.specs.Items.{Step}
use Rattle.mesh.specs.declared.Rule.TheVariants.{Cell, Five}
use Rattle.mesh.proofs.Item.{Texts}
use Rattle.mesh.proofs.Lines.{line_item, title_item}
use Rattle.mesh.proofs.CountedLines.{points_item, cells_item}
use Rattle.mesh.proofs.Blocks.{block_item, AreRight, numbers_item}
use Rattle.mesh.proofs.Sequence.{◌▷◌, Part, of_item, in_sequence, said_as}

-- the lines up to the points
abbrev pub Head : Texts
Head n w =
    (n ≤ max_vertices) × (t : List ℕ) × (every (λ b. not (eqb b 10)) t ≡ true) × (length t + 1 ≤ 256)
    × (w ≡ version_line ++ (t ++ newline) ++ binary_line ++ dataset_line ++ points_line n)

abbrev FiveLines : Texts
FiveLines = RightLine 0 version_line ▷ λ _. RightTitle ▷ λ _. RightLine 0 binary_line ▷ λ _. RightLine 0 dataset_line ▷ λ _. RightPoints

five : (a b c d e : List ℕ) → a ++ (b ++ (c ++ (d ++ e))) ≡ a ++ b ++ c ++ d ++ e
five a b c d e = simp append_assoc

-- a block of which P holds, and its newline
abbrev pub Closed : (P : List ℕ → Type 0) → Texts
Closed P v w = (v ≡ 0) × (b : List ℕ) × P b × (w ≡ b ++ newline)

-- the same, and a line
abbrev pub ClosedThen : (P : List ℕ → Type 0) (S : Texts) → Texts
ClosedThen P S x w = (b : List ℕ) × (y : List ℕ) × P b × S x y × (w ≡ b ++ newline ++ y)

abbrev pub Points : (n : ℕ) → Texts
Points n = ClosedThen (λ b. length b ≡ 24 * n) RightCells

abbrev pub Cells : (n m : ℕ) → Texts
Cells n m = ClosedThen (AreRight (Cell n) 4 (4 * m)) (RightLine 0 (types_line m))

abbrev pub Types : (m : ℕ) → Texts
Types m = Closed (AreRight Five 4 m)

abbrev pub File : Texts
File = Head ▷ λ n. Points n ▷ λ m. Cells n m ▷ λ _. Types m

module _ (f : List ℕ) where
  of_line : (t : List ℕ) → Part f (RightLine 0 t) (λ at. line 0 t at (drop at f))
  of_line t = of_item f (line_item 0 t)

  -- `points_from` at any place; in a file it is 0
  abbrev pub head_from : (at : ℕ) → Step
  head_from at =
      after (line 0 version_line at (drop at f)) (λ _ a. after (title a (drop a f)) (λ _ b. after (line 0 binary_line b (drop b f)) (λ _ c. after (line 0 dataset_line c (drop c f))
      (λ _ d. counted points_line 7 max_vertices d (drop d f)))))

  pub points_from_lem : points_from f ≡ head_from 0
  unfolding points_from
  points_from_lem = refl

  five_lines : Part f FiveLines head_from
  five_lines =
      in_sequence f (of_line version_line) (λ _. in_sequence f (of_item f title_item) (λ _. in_sequence f (of_line binary_line) (λ _. in_sequence f (of_line dataset_line)
      (λ _. of_item f points_item))))

  pub head_part : Part f Head head_from
  head_part = said_as f five_lines (λ n w. (there n w, back n w))
    where
      there : (n : ℕ) (w : List ℕ) → FiveLines n w → Head n w
      there n w (_, _, _, (_, e1), (_, _, _, (_, t, plain, short, e2), (_, _, _, (_, e3), (_, _, _, (_, e4), (few, e5), s4), s3), s2), s1) =
          (few, t, plain, short, rw (s1, s2, s3, s4, e1, e2, e3, e4, e5) (five version_line (t ++ newline) binary_line dataset_line (points_line n)))

      back : (n : ℕ) (w : List ℕ) → Head n w → FiveLines n w
      back n w (few, t, plain, short, e) = (
        0,
        version_line,
        _,
        (refl, refl),
        (0, t ++ newline, _, (refl, t, plain, short, refl), (0, binary_line, _, (refl, refl), (0, dataset_line, points_line n, (refl, refl), (few, refl), refl), refl), refl),
        e ∙ sym (five version_line (t ++ newline) binary_line dataset_line (points_line n)),
      )

  module _ {P : List ℕ → Type 0} {p : (at : ℕ) → Step} (block : Part f (λ v b. (v ≡ 0) × P b) p) where
    closed_part : Part f (Closed P) (λ at. closed f (p at))
    unfolding closed
    closed_part = said_as f (in_sequence f block (λ _. of_line newline)) (λ v w. (there v w, back v w))
      where
        there : (v : ℕ) (w : List ℕ) → ((λ v b. (v ≡ 0) × P b) ▷ λ _. RightLine 0 newline) v w → Closed P v w
        there v w (_, b, _, (_, h), (z, e), s) = (z, b, h, rw e at s)

        back : (v : ℕ) (w : List ℕ) → Closed P v w → ((λ v b. (v ≡ 0) × P b) ▷ λ _. RightLine 0 newline) v w
        back v w (z, b, h, e) = (0, b, newline, (refl, h), (z, refl), e)

    then_line : {S : Texts} {q : (at : ℕ) → Step} → Part f S q → Part f (ClosedThen P S) (λ at. after (closed f (p at)) (λ _ a. q a))
    then_line {S} line = said_as f (in_sequence f closed_part (λ _. line)) (λ x w. (there x w, back x w))
      where
        there : (x : ℕ) (w : List ℕ) → (Closed P ▷ λ _. S) x w → ClosedThen P S x w
        there x w (_, u, y, (_, b, h, e), s, d) = (b, y, h, s, rw e at d)

        back : (x : ℕ) (w : List ℕ) → ClosedThen P S x w → (Closed P ▷ λ _. S) x w
        back x w (b, y, h, s, e) = (0, b ++ newline, y, (refl, b, h, refl), s, e)

  pub cells_part : (n : ℕ) → Part f (Points n) (cells_from f n)
  unfolding cells_from
  cells_part n = then_line (of_item f (block_item (24 * n))) (of_item f cells_item)

  pub types_part : (n m : ℕ) → Part f (Cells n m) (types_from f n m)
  unfolding types_from
  types_part n m = then_line (of_item f (numbers_item (Cell n) 4 (4 * m))) (of_line (types_line m))

  -- `end_from` without the end of the file
  abbrev pub fives_from : (m at : ℕ) → Step
  fives_from m at = closed f (numbers Five 4 m 0 at (drop at f))

  pub fives_part : (m : ℕ) → Part f (Types m) (fives_from m)
  fives_part m = closed_part (of_item f (numbers_item Five 4 m))

  -- all but the end of the file
  abbrev pub file_from : (at : ℕ) → Step
  file_from at = after (head_from at) (λ n a. after (cells_from f n a) (λ m b. after (types_from f n m b) (λ _ c. fives_from m c)))

  pub file_part : Part f File file_from
  file_part = in_sequence f head_part (λ n. in_sequence f (cells_part n) (λ m. in_sequence f (types_part n m) (λ _. fives_part m)))
