-- A file is accepted exactly if it is a valid content written out, and its blocks lie where the reader says. Cut short it is refused at its length, and where it goes on, there.
use mathlib.Core.Path.{◌≡◌, refl, sym, ◌∙◌, ap}
use mathlib.Core.Bool.{true}
use mathlib.Core.List.{List, [], ◌∷◌, ◌++◌, append_assoc, append-nil}
use mathlib.Core.Logic.{◌↔◌}
use Prim.Native.Nat.{ℕ, ◌+◌, ◌*◌, ◌<◌}
use native.Mathlib.Nat.{zero-add}
use native.Mathlib.Omega.{arith}
use lib.ListN.{length, take, drop, length-append, length-drop, take-append-drop}
use lib.Seq.{take_at, take-append_seam, length-take-le, drop-append_seam}
use Rattle.std.specs.Prelude.{Result, Ok, Err}
use Rattle.refusal.specs.Refusal.{accepted, bad_file}
use Rattle.mesh.specs.Items.{end}
use Rattle.mesh.specs.Mesh.{mesh, mesh_of, number_of, values_of}
use Rattle.mesh.specs.Blocks.{points_in, cells_in}
use Rattle.mesh.specs.Writer.{Content, Valid, fit_in, before_points, points_block, before_cells, cells_block, before_types, types_block, encode, Written}
use Rattle.mesh.specs.declared.Mesh.{Mesh}
use Rattle.mesh.proofs.Item.{never, err_at}
use Rattle.mesh.proofs.After.{after_next, after_bad}
use Rattle.mesh.proofs.Sequence.{passes}
use Rattle.mesh.proofs.ReaderParts.{File, points_from_lem, head_part, cells_part, types_part, fives_part, file_from, file_part}
use Rattle.mesh.proofs.ReaderSteps.{steps, read_on, end_at, refused_at}
use Rattle.mesh.proofs.ContentText.{from_points, from_cells, from_types, points_size, cells_size, types_size, file_right, file_steps, from_right}

-- what the reader answers to the file of c
abbrev pub mesh_in : Content → Mesh
mesh_in c = mesh c.n c.m (length (before_points c)) (length (before_cells c)) (length (before_types c))

pub written_is_read : (c : Content) → Valid c → mesh_of (encode c) ≡ Ok (mesh_in c)
written_is_read c valid = read_on (encode c) (mesh_in c) (file_steps c valid)

joined : (f a b c d x y z rest : List ℕ) → f ≡ a ++ x → x ≡ b ++ y → y ≡ c ++ z → z ≡ d ++ rest → rest ≡ [] → f ≡ a ++ (b ++ (c ++ d))
joined f a b c d x y z rest e1 e2 e3 e4 none = rw (e1, e2, e3, e4, none, append-nil)

same_counts : (f : List ℕ) (c : Content) → Valid c → f ≡ encode c → (r : Mesh) → mesh_of f ≡ Ok r → Written f r
same_counts f c valid written r e =
    let read = sym (written_is_read c valid) ∙ rw written at e in
    let is : mesh_in c ≡ r = cc in
    (c, valid, written, ap (λ (a : Mesh). a.n) is, ap (λ (a : Mesh). a.m) is, ap (λ (a : Mesh). a.points) is, ap (λ (a : Mesh). a.cells) is, ap (λ (a : Mesh). a.types) is)

pub read_is_written : (f : List ℕ) → fit_in 1 f ≡ true → (mesh : Mesh) → mesh_of f ≡ Ok mesh → Written f mesh
read_is_written f bytes mesh e =
    let s = steps f mesh e in
    let (w0, head, d0, _) = (head_part f).taken 0 mesh.n mesh.points (sym (points_from_lem f) ∙ s.to_points) in
    let (w1, block1, d1, _) = (cells_part f mesh.n).taken mesh.points mesh.m mesh.cells s.to_cells in
    let (w2, block2, d2, _) = (types_part f mesh.n mesh.m).taken mesh.cells s.v mesh.types s.to_types in
    let (w3, block3, d3, _) = (fives_part f mesh.m).taken mesh.types s.x s.last s.to_last in
    let text = joined f w0 w1 w2 w3 _ _ _ _ d0 d1 d2 d3 s.no_more in
    let (c, valid, same) = from_right mesh.n mesh.m s.v s.x w0 w1 w2 w3 (rw text at bytes) head block1 block2 block3 in
    same_counts f c valid (text ∙ same) mesh e

-- THE theorem of the reader
pub accepted_exactly : (f : List ℕ) → fit_in 1 f ≡ true → (mesh : Mesh) → mesh_of f ≡ Ok mesh ↔ Written f mesh
accepted_exactly f bytes mesh = (read_is_written f bytes mesh, back)
  where
    back : Written f mesh → mesh_of f ≡ Ok mesh
    back (c, valid, written, e1, e2, e3, e4, e5) =
        let is : mesh_in c ≡ mesh = λ i. record { n = e1 i; m = e2 i; points = e3 i; cells = e4 i; types = e5 i } in
        rw (written, ← is) (written_is_read c valid)

-- by number: 0, with the counts for values, exactly where a valid content was written out, and 8 exactly where none was
pub written_number : (c : Content) → Valid c → (number_of (mesh_of (encode c)) ≡ accepted) × (values_of (mesh_of (encode c)) ≡ c.n ∷ c.m ∷ [])
written_number c valid = rw (written_is_read c valid) (refl, refl)

pub refused_8_exactly : (f : List ℕ) → fit_in 1 f ≡ true → number_of (mesh_of f) ≡ bad_file ↔ ((c : Content) → Valid c → f ≡ encode c → ⊥)
refused_8_exactly f bytes = (there, back)
  where
    there : number_of (mesh_of f) ≡ bad_file → (c : Content) → Valid c → f ≡ encode c → ⊥
    there e c valid written = omega (arith, rw (written, written_is_read c valid) at e)

    by : (a : Result Mesh ℕ) → mesh_of f ≡ a → ((c : Content) → Valid c → f ≡ encode c → ⊥) → number_of a ≡ bad_file
    by (Ok mesh) e none = let (c, valid, written, _, _, _, _, _) = read_is_written f bytes mesh e in absurd (none c valid written)
    by (Err place) e none = refl

    back : ((c : Content) → Valid c → f ≡ encode c → ⊥) → number_of (mesh_of f) ≡ bad_file
    back none = by (mesh_of f) refl none

-- every beginning of a right file is refused at its own length
pub cut_short : (c : Content) → Valid c → (k : ℕ) → k < length (encode c) → mesh_of (take k (encode c)) ≡ Err k
cut_short c valid k h =
    let f = take k (encode c) in
    let rest = drop k (encode c) in
    let place : 0 + length f ≡ k = zero-add (length f) ∙ length-take-le k (encode c) (omega arith) in
    let more : 0 < length rest = rw length-drop (omega arith) in
    let right : File 0 (f ++ rest) = rw (take-append-drop k (encode c)) (file_right c valid) in
    refused_at f k (after_bad (file_from f 0) (end_at f) k ((file_part f).cut 0 0 f rest right more refl ∙ err_at place))

-- so a file that is refused at one of its bytes is no beginning of a right file
pub no_right_file_begins_so : (f : List ℕ) (place : ℕ) → mesh_of f ≡ Err place → place < length f
    → (c : Content) → Valid c → (rest : List ℕ) → encode c ≡ f ++ rest → ⊥
no_right_file_begins_so f place e h c valid [] g = never (sym e ∙ rw (g ∙ append-nil f) at (written_is_read c valid))
no_right_file_begins_so f place e h c valid (b ∷ rest) g =
    let more : length f < length (encode c) = rw (g, length-append) (omega arith) in
    let cut : mesh_of f ≡ Err (length f) = rw (g, take-append_seam f (b ∷ rest)) at (cut_short c valid (length f) more) in
    let refused : ◌≡◌ {A = Result Mesh ℕ} (Err place) (Err (length f)) = sym e ∙ cut in
    let same : place ≡ length f = cc in
    omega arith

-- a right file that goes on is refused at the first byte too many
pub too_long : (c : Content) → Valid c → (b : ℕ) (rest : List ℕ) → mesh_of (encode c ++ b ∷ rest) ≡ Err (length (encode c))
unfolding end
too_long c valid b rest =
    let f = encode c ++ b ∷ rest in
    let place = length (encode c) in
    let taken = passes f (file_part f) [] (encode c) (b ∷ rest) (encode c) 0 (file_right c valid) refl refl in
    refused_at f place (after_next (file_from f 0) (end_at f) 0 place taken ∙ rw (drop-append_seam (encode c) (b ∷ rest)))

block_at : (f a block rest : List ℕ) (k : ℕ) → f ≡ a ++ (block ++ rest) → length block ≡ k → take k (drop (length a) f) ≡ block
block_at f a block rest k e l = rw (e, drop-append_seam a (block ++ rest)) (take_at block rest k l)

pub blocks_written : (c : Content) → Valid c
    → (take (24 * c.n) (drop (length (before_points c)) (encode c)) ≡ points_block c) × (take (16 * c.m) (drop (length (before_cells c)) (encode c)) ≡ cells_block c)
    × (take (4 * c.m) (drop (length (before_types c)) (encode c)) ≡ types_block c)
blocks_written c valid = (
  block_at (encode c) (before_points c) (points_block c) _ (24 * c.n) (simp append_assoc at (from_points c)) (points_size c valid),
  block_at (encode c) (before_cells c) (cells_block c) _ (16 * c.m) (simp append_assoc at (from_cells c)) (omega (arith, cells_size c valid)),
  block_at (encode c) (before_types c) (types_block c) _ (4 * c.m) (from_types c) (types_size c valid),
)

pub points_written : (c : Content) → Valid c → points_in (encode c) (mesh_of (encode c)) ≡ points_block c
unfolding points_in
points_written c valid = rw (written_is_read c valid) (blocks_written c valid).0

pub cells_written : (c : Content) → Valid c → cells_in (encode c) (mesh_of (encode c)) ≡ cells_block c
unfolding cells_in
cells_written c valid = rw (written_is_read c valid) (blocks_written c valid).1
