-- `read` is `read_parts` with no more than the place of what is wrong: both definitions go by the same parts.
use mathlib.Core.Path.{◌≡◌, refl}
use mathlib.Core.List.{List}
use Prim.Native.Nat.{ℕ}
use Rattle.std.specs.Prelude.{Result, Ok, Err, MatchResult, IsErrAnd}
use Rattle.mesh.specs.Items.{Step, after}
use Rattle.mesh.specs.Mesh.{points_from, cells_from, types_from, end_from, mesh_of}
use Rattle.mesh.specs.Found.{found, found_of, place_of}
use Rattle.mesh.specs.declared.Mesh.{Mesh}
use Rattle.mesh.specs.declared.Misread.{Misread}

abbrev pub placed : Result Mesh Misread → Result Mesh ℕ
placed (Ok mesh) = Ok mesh
placed (Err misread) = Err (place_of misread)

-- the code, which has r for what is found and gives q, mapped by a closure of which P holds
pub placed_by : {P : Misread → ℕ → Type 0} → ((misread : Misread) (place : ℕ) → P misread place → place ≡ place_of misread) → (r : Result Mesh Misread) {q : Result Mesh ℕ}
    → MatchResult r (λ x. q ≡ Ok x) (λ e. IsErrAnd q (P e)) → q ≡ placed r
placed_by h (Ok mesh) is = is
placed_by h (Err misread) {q = Ok mesh} is = absurd is
placed_by h (Err misread) {q = Err place} is = rw (h misread place is)

-- one part, and the same of what follows it
part : (bad : ℕ → Misread) (s : Step) (more : ℕ → ℕ → Result Mesh Misread) (answers : ℕ → ℕ → Result Mesh ℕ)
    → ((place : ℕ) → place_of (bad place) ≡ place) → ((v a : ℕ) → placed (more v a) ≡ answers v a) → placed (found bad s more) ≡ after s answers
unfolding found after
part bad (Ok (v, a)) more answers h k = k v a
part bad (Err place) more answers h k = rw (h place)

pub read_lem : (f : List ℕ) → placed (found_of f) ≡ mesh_of f
unfolding found_of mesh_of
read_lem f =
    part _ (points_from f) _ _ (λ _. refl) (λ n points. part _ (cells_from f n points) _ _ (λ _. refl)
    (λ m cells. part _ (types_from f n m cells) _ _ (λ _. refl) (λ _ types. part _ (end_from f m types) _ _ (λ _. refl) (λ _ _. refl))))

pub whole : (f : List ℕ) {mesh : Mesh} → found_of f ≡ Ok mesh → mesh_of f ≡ Ok mesh
whole f e = rw (← read_lem f, e)
