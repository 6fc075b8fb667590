-- A flat list that keeps three numbers for each vertex, those of vertex i at i * 3, i * 3 + 1 and i * 3 + 2; and adding to it, in the source's order (01-scope 5.3).
use Rattle.std.specs.Prelude.{cond, ◌&&◌, List, ℕ, zero, suc, ◌+◌, ◌*◌, ◌/◌, ltb, Float, get_or, length, set}
use Rattle.std.specs.Float.{Format, nan}
use Rattle.float.specs.Lists.{◌!◌}
use Rattle.float.specs.Ops.{ops}
use Rattle.vec3.specs.declared.V3.{V3}

-- the one of three numbers that goes to place k
abbrev pub component : (k : ℕ) → V3 → Float
component zero x = x.x
component (suc zero) x = x.y
component (suc (suc k)) x = x.z

module _ (f : Format) where
  open ops f use {◌⊕◌}

  infixl 75 ◌⊕◌
  abbrev pub add_at : (values : List Float) (i : ℕ) (x : Float) → List Float
  add_at values i x = set values i (values ! i ⊕ x)

  -- to the three places of vertex i
  unfoldable pub add_vertex : (values : List Float) (i : ℕ) (x : V3) → List Float
  add_vertex values i x = add_at (add_at (add_at values (i * 3) x.x) (i * 3 + 1) x.y) (i * 3 + 2) x.z

  -- to those of a triangle's three names, one after the other: a vertex that is named twice is served twice
  unfoldable pub add_triangle : (values : List Float) (i0 i1 i2 : ℕ) (x0 x1 x2 : V3) → List Float
  add_triangle values i0 i1 i2 x0 x1 x2 = add_vertex (add_vertex (add_vertex values i0 x0) i1 x1) i2 x2

  -- nothing is added where one of the names is no vertex's
  unfoldable pub added_of : (values : List Float) (i0 i1 i2 : ℕ) (x0 x1 x2 : V3) → List Float
  added_of values i0 i1 i2 x0 x1 x2 =
      let vertices = length values / 3 in
      cond (ltb i0 vertices && ltb i1 vertices && ltb i2 vertices) (add_triangle values i0 i1 i2 x0 x1 x2) values

  -- THE statement of `add_triangle`: `added_of`, the three names and the three vectors from lists
  abbrev pub added_to : (values : List Float) (names : List ℕ) (xs : List V3) → List Float
  added_to values names xs =
      let name = λ (k : ℕ). get_or names k 0 in
      let x = λ (k : ℕ). get_or xs k (record { x = nan; y = nan; z = nan }) in
      added_of values (name 0) (name 1) (name 2) (x 0) (x 1) (x 2)
