-- Where the triangles of a list are added to +0, each place holds what they give its vertex, added in the list's order: kept by every triangle.
use mathlib.Core.Path.{◌≡◌, refl, ◌∙◌}
use mathlib.Core.Bool.{Bool, true, false, not}
use mathlib.Core.List.{List, [], ◌∷◌, ◌++◌}
use Prim.Native.Nat.{ℕ, ◌+◌, ◌*◌, ◌<◌}
use native.Mathlib.Omega.{arith}
use lib.Dec.{eqb, ltb}
use lib.Ieee.{Float, Format, nan}
use lib.ListN.{length, get_or-replicate, length-replicate}
use borrow.Author.Tests.{ltb-true, not-true}
use Rattle.float.specs.Lists.{◌!◌, All, cleared, every, fold, fold_threes, map_threes, total}
use Rattle.float.specs.Ops.{ops}
use Rattle.float.proofs.Each.{all_append}
use Rattle.float.proofs.Fold.{fold_append, threes_keep}
use Rattle.refusal.specs.Panel.{names_below}
use Rattle.vec3.specs.declared.V3.{V3}
use Rattle.places.specs.Places.{component, add_triangle}
use Rattle.places.specs.Vertex.{when, named_by, given_to}
use Rattle.places.proofs.Places.{add_if, triangle_at, triangle_length}

-- part: the three numbers in what a triangle gives a vertex
module _ (f : Format) {A : Type 0} (of : (c i0 i1 i2 : ℕ) → A) (part : A → V3) where
  open ops f use {◌⊕◌}

  infixl 75 ◌⊕◌
  abbrev pub add : List Float → (i0 i1 i2 : ℕ) → List Float
  add values i0 i1 i2 = add_triangle f values i0 i1 i2 (part (of 0 i0 i1 i2)) (part (of 1 i0 i1 i2)) (part (of 2 i0 i1 i2))

  abbrev share : (k : ℕ) → A → Float
  share k a = component k (part a)

  module _ (n v k : ℕ) (k3 : k < 3) where
    once : (test : Bool) (a : A) (held : Float) → fold (λ s b. s ⊕ share k b) held (when test a) ≡ add_if f test (share k a) held
    unfolding fold
    once true a held = refl
    once false a held = refl

    named : (l : List A) (i0 i1 i2 : ℕ) → total f (share k) (l ++ named_by of v i0 i1 i2)
        ≡ add_if f (eqb i2 v) (share k (of 2 i0 i1 i2)) (add_if f (eqb i1 v) (share k (of 1 i0 i1 i2)) (add_if f (eqb i0 v) (share k (of 0 i0 i1 i2)) (total f (share k) l)))
    unfolding named_by
    named l i0 i1 i2 = simp (fold_append, once)

    -- of the list and of what the vertex was given so far
    Keeps : List Float → List A → Type 0
    Keeps values l = (length values ≡ n * 3) × (values ! (v * 3 + k) ≡ total f (share k) l)

    turn : (values : List Float) (l : List A) (i0 i1 i2 : ℕ) → ltb i0 n ≡ true → ltb i1 n ≡ true → ltb i2 n ≡ true → Keeps values l
        → Keeps (add values i0 i1 i2) (l ++ named_by of v i0 i1 i2)
    unfolding Keeps
    turn values l i0 i1 i2 e0 e1 e2 (size, held) =
        let h0 = ltb-true i0 n e0 in
        let h1 = ltb-true i1 n e1 in
        let h2 = ltb-true i2 n e2 in (
          triangle_length f values i0 i1 i2 _ _ _ ∙ size,
          triangle_at f values i0 i1 i2 _ _ _ (omega arith) (omega arith) (omega arith) v k k3 ∙ rw (held, named l i0 i1 i2),
        )

  module _ (values : List Float) (names : List ℕ) (n : ℕ) (size : length values ≡ n * 3) (below : names_below n names ≡ true) where
    pub added_sized : length (fold_threes add (cleared f values) names) ≡ n * 3
    added_sized =
        threes_keep {C = Unit} add (λ c i0 i1 i2. c) (λ i. ltb i n) (λ values c. length values ≡ n * 3)
        (λ values c i0 i1 i2 e0 e1 e2 held. triangle_length f values i0 i1 i2 _ _ _ ∙ held) names _ tt below (length-replicate _ (ops f).zero ∙ size)

    -- THE theorem of a vertex's places
    pub added_holds : (v k : ℕ) → v < n → k < 3 → fold_threes add (cleared f values) names ! (v * 3 + k) ≡ total f (λ a. component k (part a)) (given_to of v names)
    unfolding given_to Keeps fold
    added_holds v k h k3 =
        let start : Keeps n v k k3 (cleared f values) [] = (length-replicate _ (ops f).zero ∙ size, get_or-replicate (length values) (v * 3 + k) (ops f).zero nan (omega arith)) in
        (threes_keep add _ (λ i. ltb i n) (Keeps n v k k3) (turn n v k k3) names _ [] below start).1

-- a vertex without a name is given nothing, so its places hold +0
module _ {A : Type 0} (of : (c i0 i1 i2 : ℕ) → A) (v : ℕ) where
  none_given : (l : List A) (i0 i1 i2 : ℕ) → not (eqb i0 v) ≡ true → not (eqb i1 v) ≡ true → not (eqb i2 v) ≡ true → l ≡ [] → l ++ named_by of v i0 i1 i2 ≡ []
  unfolding named_by
  none_given l i0 i1 i2 e0 e1 e2 h = rw (h, not-true (eqb i0 v) e0, not-true (eqb i1 v) e1, not-true (eqb i2 v) e2)

  pub unnamed : (names : List ℕ) → every (λ i. not (eqb i v)) names ≡ true → given_to of v names ≡ []
  unfolding given_to
  unnamed names e = threes_keep {C = Unit} _ (λ c i0 i1 i2. c) (λ i. not (eqb i v)) (λ l c. l ≡ []) (λ l c. none_given l) names [] tt e refl

-- what holds of every triangle holds of those that a vertex is given
module _ {A : Type 0} (g : (i0 i1 i2 : ℕ) → A) (P : A → Type 0) (v : ℕ) where
  all_when : (test : Bool) (a : A) → P a → All P (when test a)
  all_when true a p = (p, tt)
  all_when false a p = tt

  all_named : (i0 i1 i2 : ℕ) → P (g i0 i1 i2) → All P (named_by (λ c. g) v i0 i1 i2)
  unfolding named_by
  all_named i0 i1 i2 p =
      let a = g i0 i1 i2 in
      let first = when (eqb i0 v) a in
      let second = when (eqb i1 v) a in
      all_append P (first ++ second) _ (all_append P first second (all_when (eqb i0 v) a p) (all_when (eqb i1 v) a p)) (all_when (eqb i2 v) a p)

  given_from : (l : List ℕ) (s : List A) → All P s → All P (map_threes g l) → All P (fold_threes (λ s i0 i1 i2. s ++ named_by (λ c. g) v i0 i1 i2) s l)
  unfolding map_threes fold_threes
  given_from (i0 ∷ i1 ∷ i2 ∷ l) s k h = given_from l _ (all_append P s _ k (all_named i0 i1 i2 h.0)) h.1
  given_from (i0 ∷ i1 ∷ []) s k h = k
  given_from (i0 ∷ []) s k h = k
  given_from [] s k h = k

  pub given_all : (names : List ℕ) → All P (map_threes g names) → All P (given_to (λ c. g) v names)
  unfolding given_to
  given_all names = given_from names [] tt
