-- A text says one content at most: its counts and places are those that the reader answers, its blocks are those that stand there, and what is left of the head is its title.
use mathlib.Core.Path.{◌≡◌, sym, ◌∙◌, ap}
use mathlib.Core.List.{List, append_assoc}
use Prim.Native.Nat.{ℕ, ◌+◌, ◌*◌, ◌/◌, ◌%◌, ◌<◌}
use native.Mathlib.Omega.{arith}
use lib.ListN.{length, get_or, take, drop, length-append}
use lib.Seq.{ext_get_or, take-append_seam}
use Rattle.std.specs.Prelude.{Result, Ok}
use Rattle.mesh.specs.Text.{points_line}
use Rattle.mesh.specs.Mesh.{mesh_of}
use Rattle.mesh.specs.Blocks.{points_in, cells_in}
use Rattle.mesh.specs.Writer.{Content, Valid, cell_numbers, before_points, points_block, cells_block, encode}
use Rattle.mesh.specs.declared.Mesh.{Mesh}
use Rattle.mesh.proofs.CellsAndTypes.{names_past}
use Rattle.mesh.proofs.ContentText.{from_points, points_read, numbers_read}
use Rattle.mesh.proofs.Accepted.{mesh_in, written_is_read, points_written, cells_written}

-- the names, from the numbers of the cells
name_at : (m : ℕ) (t : List ℕ) (i : ℕ) → length t ≡ 3 * m → i < length t → get_or (cell_numbers t) (4 * (i / 3) + (1 + i % 3)) 0 ≡ get_or t i 0
name_at m t i l h =
    let place : 3 * (i / 3) + i % 3 ≡ i = omega arith in
    rw place at (names_past t (i / 3) (i % 3) (omega arith) (omega arith))

same_names : (m : ℕ) (t u : List ℕ) → length t ≡ 3 * m → length u ≡ 3 * m → cell_numbers t ≡ cell_numbers u → t ≡ u
same_names m t u l k e = ext_get_or 0 t u (omega arith) (λ i h. sym (name_at m t i l h) ∙ rw e (name_at m u i k (omega arith)))

module _ (c : Content) where
  title_length : length (before_points c) ≡ length c.title + (61 + length (points_line c.n))
  unfolding before_points
  title_length = simp length-append (omega arith)

  title_there : take (length c.title) (drop 27 (encode c)) ≡ c.title
  unfolding before_points
  title_there = rw (from_points c) (simp append_assoc (take-append_seam c.title _))

module _ (c d : Content) (valid-c : Valid c) (valid-d : Valid d) (e : encode c ≡ encode d) where
  same_answer : mesh_in c ≡ mesh_in d
  same_answer = let read : ◌≡◌ {A = Result Mesh ℕ} (Ok (mesh_in c)) (Ok (mesh_in d)) = sym (written_is_read c valid-c) ∙ ap mesh_of e ∙ written_is_read d valid-d in cc

  same_n : c.n ≡ d.n
  same_n = ap (λ (a : Mesh). a.n) same_answer

  same_m : c.m ≡ d.m
  same_m = ap (λ (a : Mesh). a.m) same_answer

  same_title : c.title ≡ d.title
  same_title =
      let places : length (before_points c) ≡ length (before_points d) = ap (λ (a : Mesh). a.points) same_answer in
      let l : length c.title ≡ length d.title = omega (arith, title_length c, title_length d, ap (λ (n : ℕ). length (points_line n)) same_n) in
      sym (title_there c) ∙ rw (l, e) (title_there d)

  same_points : c.points ≡ d.points
  same_points =
      let blocks : points_block c ≡ points_block d = sym (points_written c valid-c) ∙ ap (λ (f : List ℕ). points_in f (mesh_of f)) e ∙ points_written d valid-d in
      sym (points_read c valid-c) ∙ rw (blocks, same_n) (points_read d valid-d)

  same_numbers : cell_numbers c.triangles ≡ cell_numbers d.triangles
  same_numbers =
      let blocks : cells_block c ≡ cells_block d = sym (cells_written c valid-c) ∙ ap (λ (f : List ℕ). cells_in f (mesh_of f)) e ∙ cells_written d valid-d in
      sym (numbers_read c valid-c) ∙ rw (blocks, same_m) (numbers_read d valid-d)

  same_triangles : c.triangles ≡ d.triangles
  same_triangles = same_names d.m c.triangles d.triangles (rw same_m at valid-c.three_names) valid-d.three_names same_numbers

  pub one_content : c ≡ d
  one_content = λ i. record { title = same_title i; n = same_n i; points = same_points i; m = same_m i; triangles = same_triangles i }
