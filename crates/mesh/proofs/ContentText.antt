-- The text of a content is right for each part of the reader; and texts that are right for the parts, one after the other, are the text of a content: of their bytes, read.
use mathlib.Core.Path.{◌≡◌, refl, sym, ◌∙◌, ap}
use mathlib.Core.Bool.{true}
use mathlib.Core.List.{List, [], ◌++◌, append_assoc, append-nil}
use Prim.Native.Nat.{ℕ, ◌*◌}
use native.Mathlib.Omega.{arith}
use lib.Dec.{ltb}
use lib.ListN.{length, replicate, length-replicate}
use lib.Seq.{drop-length}
use Rattle.float.proofs.Scan.{every_parts}
use Rattle.mesh.specs.Text.{newline, version_line, binary_line, dataset_line, points_line, cells_line, types_line}
use Rattle.mesh.specs.Mesh.{mesh}
use Rattle.mesh.specs.Writer.{Content, Valid, fit_in, spell, cell_numbers, before_points, points_block, before_cells, cells_block, before_types, types_block, encode}
use Rattle.mesh.proofs.Bytes.{decode, decode_length, decode_fits, decode_block, spell_length, spell_block}
use Rattle.mesh.proofs.CellsAndTypes.{cells_exactly, cell_numbers_length, cells_fit, types_exactly, types_fit}
use Rattle.mesh.proofs.Sequence.{passes}
use Rattle.mesh.proofs.ReaderParts.{Head, Points, Cells, Types, File, points_from_lem, head_part, cells_part, types_part, fives_part}
use Rattle.mesh.proofs.ReaderSteps.{Steps}

module _ (c : Content) where
  -- from each block up to the next
  abbrev points_text : List ℕ
  points_text = points_block c ++ newline ++ cells_line c.m

  abbrev cells_text : List ℕ
  cells_text = cells_block c ++ newline ++ types_line c.m

  abbrev types_text : List ℕ
  types_text = types_block c ++ newline

  cells_follow : before_cells c ≡ before_points c ++ points_text
  unfolding before_cells
  cells_follow = simp append_assoc

  types_follow : before_types c ≡ before_cells c ++ cells_text
  unfolding before_types
  types_follow = simp append_assoc

  -- the file from each block on
  pub from_types : encode c ≡ before_types c ++ types_text
  unfolding encode
  from_types = append_assoc (before_types c) (types_block c) newline

  pub from_cells : encode c ≡ before_cells c ++ (cells_text ++ types_text)
  from_cells = from_types ∙ rw types_follow (append_assoc (before_cells c) cells_text types_text)

  pub from_points : encode c ≡ before_points c ++ (points_text ++ (cells_text ++ types_text))
  from_points = from_cells ∙ rw cells_follow (append_assoc (before_points c) points_text (cells_text ++ types_text))

  module _ (valid : Valid c) where
    pub points_size : length (points_block c) ≡ 24 * c.n
    points_size = spell_length 8 c.points ∙ omega (arith, valid.three_coordinates)

    pub four_numbers : length (cell_numbers c.triangles) ≡ 4 * c.m
    four_numbers = cell_numbers_length c.m c.triangles valid.three_names

    pub numbers_fit : fit_in 4 (cell_numbers c.triangles) ≡ true
    numbers_fit = cells_fit c.n c.m c.triangles valid.few_points valid.three_names valid.named

    -- the numbers that the blocks spell
    pub points_read : decode 8 (3 * c.n) (points_block c) ≡ c.points
    points_read = decode_block 8 (3 * c.n) c.points valid.three_coordinates valid.patterns

    pub numbers_read : decode 4 (4 * c.m) (cells_block c) ≡ cell_numbers c.triangles
    numbers_read = decode_block 4 (4 * c.m) (cell_numbers c.triangles) four_numbers numbers_fit

    pub cells_size : length (cells_block c) ≡ 4 * (4 * c.m)
    cells_size = spell_length 4 (cell_numbers c.triangles) ∙ omega (arith, four_numbers)

    pub types_size : length (types_block c) ≡ 4 * c.m
    types_size = spell_length 4 (replicate c.m 5) ∙ omega (arith, length-replicate {A = ℕ} c.m 5)

    head_right : Head c.n (before_points c)
    unfolding before_points
    head_right = (valid.few_points, c.title, valid.title_line, valid.title_short, refl)

    points_right : Points c.n c.m points_text
    points_right = (points_block c, cells_line c.m, points_size, (valid.few_triangles, refl), refl)

    cells_right : Cells c.n c.m 0 cells_text
    cells_right =
        let right = (cells_exactly c.n c.m (cell_numbers c.triangles) four_numbers).1 (c.triangles, valid.three_names, valid.named, refl) in
        (cells_block c, types_line c.m, (cells_size, rw numbers_read right), (refl, refl), refl)

    types_right : Types c.m 0 types_text
    types_right =
        let fives = length-replicate {A = ℕ} c.m 5 in
        let numbers = decode_block 4 c.m (replicate c.m 5) fives (types_fit c.m) in
        (refl, types_block c, (types_size, rw numbers ((types_exactly c.m (replicate c.m 5) fives).1 refl)), refl)

    pub file_right : File 0 (encode c)
    file_right = (
      c.n,
      before_points c,
      points_text ++ (cells_text ++ types_text),
      head_right,
      (c.m, points_text, cells_text ++ types_text, points_right, (0, cells_text, types_text, cells_right, types_right, refl), refl),
      from_points,
    )

    pub file_steps : Steps (encode c) (mesh c.n c.m (length (before_points c)) (length (before_cells c)) (length (before_types c)))
    file_steps =
        let f = encode c in
        record {
          to_points = points_from_lem f ∙ passes f (head_part f) [] (before_points c) _ (before_points c) c.n head_right from_points refl;
          to_cells = passes f (cells_part f c.n) (before_points c) points_text _ (before_cells c) c.m points_right from_points cells_follow;
          v = 0;
          to_types = passes f (types_part f c.n c.m) (before_cells c) cells_text _ (before_types c) 0 cells_right from_cells types_follow;
          x = 0;
          last = length f;
          to_last = passes f (fives_part f c.m) (before_types c) types_text [] f 0 types_right (from_types ∙ rw append-nil) from_types;
          no_more = drop-length f;
        }

  -- the text of c, where its pieces are given
  same_text : (head points cells types b1 y1 b2 y2 b3 : List ℕ) → head ≡ version_line ++ (c.title ++ newline) ++ binary_line ++ dataset_line ++ points_line c.n
      → points ≡ b1 ++ newline ++ y1 → b1 ≡ points_block c → y1 ≡ cells_line c.m → cells ≡ b2 ++ newline ++ y2 → b2 ≡ cells_block c → y2 ≡ types_line c.m
      → types ≡ b3 ++ newline → b3 ≡ types_block c → head ++ (points ++ (cells ++ types)) ≡ encode c
  unfolding before_points
  same_text head points cells types b1 y1 b2 y2 b3 e0 s1 e1 l1 s2 e2 l2 s3 e3 = rw (e0, s1, s2, s3, e1, e2, e3, l1, l2) (sym from_points)

fits_both : (a b : List ℕ) → fit_in 1 (a ++ b) ≡ true → (fit_in 1 a ≡ true) × (fit_in 1 b ≡ true)
fits_both = every_parts (λ x. ltb x 256)

title_fits : (n : ℕ) (t : List ℕ) → fit_in 1 (version_line ++ (t ++ newline) ++ binary_line ++ dataset_line ++ points_line n) ≡ true → fit_in 1 t ≡ true
title_fits n t e =
    let start = version_line ++ (t ++ newline) in
    let lines = (fits_both start binary_line (fits_both (start ++ binary_line) dataset_line (fits_both (start ++ binary_line ++ dataset_line) (points_line n) e).0).0).0 in
    (fits_both t newline (fits_both version_line (t ++ newline) lines).1).0

pub from_right : (n m v x : ℕ) (head points cells types : List ℕ) → fit_in 1 (head ++ (points ++ (cells ++ types))) ≡ true
    → Head n head → Points n m points → Cells n m v cells → Types m x types
    → (c : Content) × Valid c × (head ++ (points ++ (cells ++ types)) ≡ encode c)
from_right n m v x head points cells types bytes (few, t, plain, short, e0)
    (b1, y1, size1, (few-cells, l1), s1) (b2, y2, (size2, right2), (_, l2), s2) (_, b3, (size3, right3), s3) =
    let (head_bytes, after-head) = fits_both head _ bytes in
    let (points-bytes, after-points) = fits_both points _ after-head in
    let (cells-bytes, types-bytes) = fits_both cells types after-points in
    let fits1 = (fits_both b1 _ (fits_both (b1 ++ newline) y1 (rw s1 at points-bytes)).0).0 in
    let fits2 = (fits_both b2 _ (fits_both (b2 ++ newline) y2 (rw s2 at cells-bytes)).0).0 in
    let fits3 = (fits_both b3 _ (rw s3 at types-bytes)).0 in
    let (names, three, below, e2) = (cells_exactly n m (decode 4 (4 * m) b2) (decode_length 4 (4 * m) b2)).0 right2 in
    let e3 = (types_exactly m (decode 4 m b3) (decode_length 4 m b3)).0 right3 in
    let c : Content = record { title = t; n = n; points = decode 8 (3 * n) b1; m = m; triangles = names } in
    let valid : Valid c = record {
      title_bytes = title_fits n t (rw e0 at head_bytes);
      title_line = plain;
      title_short = short;
      few_points = few;
      three_coordinates = decode_length 8 (3 * n) b1;
      patterns = decode_fits 8 (3 * n) b1 fits1 (omega arith);
      few_triangles = few-cells;
      three_names = three;
      named = below;
    } in
    let block1 = spell_block 8 (3 * n) b1 fits1 (omega arith) in
    let block2 = spell_block 4 (4 * m) b2 fits2 size2 ∙ ap (spell 4) e2 in
    let block3 = spell_block 4 m b3 fits3 size3 ∙ ap (spell 4) e3 in
    (c, valid, same_text c head points cells types b1 y1 b2 y2 b3 e0 s1 block1 l1 s2 block2 l2 s3 block3)
