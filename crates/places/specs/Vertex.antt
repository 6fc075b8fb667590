-- What the triangles of a list give one vertex (01-scope 5.3): something for each of a triangle's names (01-scope 6.1), in the list's order.
use Rattle.std.specs.Prelude.{Bool, cond, List, [], ◌∷◌, ◌++◌, ℕ, eqb}
use Rattle.float.specs.Lists.{fold_threes}

-- once where the test holds
abbrev pub when : {A : Type 0} → Bool → A → List A
when test a = cond test (a ∷ []) []

-- of c i0 i1 i2: what a triangle of these names gives the vertex at its corner c, one of 0, 1 and 2
module _ {A : Type 0} (of : (c i0 i1 i2 : ℕ) → A) where
  -- what it gives vertex v: once for each of its names that is v
  unfoldable pub named_by : (v i0 i1 i2 : ℕ) → List A
  named_by v i0 i1 i2 = (when (eqb i0 v) (of 0 i0 i1 i2) ++ when (eqb i1 v) (of 1 i0 i1 i2)) ++ when (eqb i2 v) (of 2 i0 i1 i2)

  -- the same of every triangle
  unfoldable pub given_to : (v : ℕ) (names : List ℕ) → List A
  given_to v names = fold_threes (λ l i0 i1 i2. l ++ named_by v i0 i1 i2) [] names
