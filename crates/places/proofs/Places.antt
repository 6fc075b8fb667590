-- What a place holds after an addition: a vertex's own three places have taken their numbers, every other one is as it was.
use mathlib.Core.Path.{◌≡◌, refl, sym}
use mathlib.Core.Bool.{Bool, true, false, cond, ◌&&◌}
use mathlib.Core.List.{List}
use Prim.Native.Nat.{ℕ, zero, suc, ◌+◌, ◌*◌, ◌/◌, ◌<◌}
use native.Mathlib.Nat.{add-zero}
use native.Mathlib.Omega.{arith}
use lib.Dec.{eqb, ltb, lit<}
use lib.ListN.{length, length-set}
use lib.Seq.{get_or-set_same, get_or-set_other}
use lib.Ieee.{Float, Format, nan}
use borrow.Author.Tests.{eqb-true, eqb-false, eq-eqb, ne_eqb, lt-ltb}
use Rattle.float.specs.Lists.{◌!◌}
use Rattle.float.specs.Ops.{ops}
use Rattle.vec3.specs.declared.V3.{V3}
use Rattle.places.specs.Places.{component, add_at, add_vertex, add_triangle, added_of}

-- place c of vertex i is place k of vertex v where both are the same
same_place : (i c v k : ℕ) → c < 3 → k < 3 → eqb (i * 3 + c) (v * 3 + k) ≡ (eqb c k && eqb i v)
same_place i c v k h l = split (eqb c k) (eqb i v) refl refl
  where
    split : (a b : Bool) → eqb c k ≡ a → eqb i v ≡ b → eqb (i * 3 + c) (v * 3 + k) ≡ (a && b)
    split true true e g = eq-eqb (i * 3 + c) (v * 3 + k) (omega (arith, eqb-true c k e, eqb-true i v g))
    split true false e g = ne_eqb _ _ (λ (s : i * 3 + c ≡ v * 3 + k). eqb-false i v g (omega (arith, eqb-true c k e)))
    split false b e g = ne_eqb _ _ (λ (s : i * 3 + c ≡ v * 3 + k). eqb-false c k e (omega arith))

module _ (f : Format) where
  open ops f use {◌⊕◌}

  infixl 75 ◌⊕◌
  vertex_length : (values : List Float) (i : ℕ) (x : V3) → length (add_vertex f values i x) ≡ length values
  unfolding add_vertex
  vertex_length values i x = simp length-set

  pub triangle_length : (values : List Float) (i0 i1 i2 : ℕ) (x0 x1 x2 : V3) → length (add_triangle f values i0 i1 i2 x0 x1 x2) ≡ length values
  unfolding add_triangle
  triangle_length values i0 i1 i2 x0 x1 x2 = simp vertex_length

  -- nothing is left out where each name is a vertex's
  pub added : (values : List Float) (i0 i1 i2 : ℕ) (x0 x1 x2 : V3) (n : ℕ) → length values ≡ n * 3 → i0 < n → i1 < n → i2 < n
      → added_of f values i0 i1 i2 x0 x1 x2 ≡ add_triangle f values i0 i1 i2 x0 x1 x2
  unfolding added_of
  added values i0 i1 i2 x0 x1 x2 n size h0 h1 h2 =
      let below : (i : ℕ) → i < n → ltb i (length values / 3) ≡ true = λ i h. lt-ltb i _ (omega arith) in
      rw (below i0 h0, below i1 h1, below i2 h2)

  -- x added where the test holds
  abbrev pub add_if : Bool → Float → Float → Float
  add_if test x held = cond test (held ⊕ x) held

  at : (values : List Float) (i j : ℕ) (x : Float) → i < length values → add_at f values i x ! j ≡ add_if (eqb i j) x (values ! j)
  at values i j x h = split (eqb i j) refl
    where
      split : (b : Bool) → eqb i j ≡ b → add_at f values i x ! j ≡ add_if b x (values ! j)
      split true e = rw (← eqb-true i j e) (get_or-set_same values i _ nan h)
      split false e = get_or-set_other values i j _ nan (λ g. eqb-false i j e (sym g))

  vertex_at : (values : List Float) (i : ℕ) (x : V3) → i * 3 + 2 < length values → (v k : ℕ) → k < 3
      → add_vertex f values i x ! (v * 3 + k) ≡ add_if (eqb i v) (component k x) (values ! (v * 3 + k))
  unfolding add_vertex
  vertex_at values i x h v k l =
      let one = add_at f values (i * 3) x.x in
      rw (
        at (add_at f one (i * 3 + 1) x.y) (i * 3 + 2) (v * 3 + k) x.z (simp length-set h),
        at one (i * 3 + 1) (v * 3 + k) x.y (rw length-set (omega arith)),
        at values (i * 3) (v * 3 + k) x.x (omega arith),
        same_place i 2 v k (lit< tt) l,
        same_place i 1 v k (lit< tt) l,
        rw (add-zero (i * 3)) at (same_place i 0 v k (lit< tt) l),
      ) (pick k l (values ! (v * 3 + k)) (eqb i v))
    where
      pick : (k : ℕ) → k < 3 → (held : Float) (b : Bool) → add_if (eqb 2 k && b) x.z (add_if (eqb 1 k && b) x.y (add_if (eqb 0 k && b) x.x held)) ≡ add_if b (component k x) held
      pick zero l held b = refl
      pick (suc zero) l held b = refl
      pick (suc (suc zero)) l held b = refl
      pick (suc (suc (suc k))) l held b = absurd (omega arith)

  pub triangle_at : (values : List Float) (i0 i1 i2 : ℕ) (x0 x1 x2 : V3) → i0 * 3 + 2 < length values → i1 * 3 + 2 < length values
      → i2 * 3 + 2 < length values → (v k : ℕ) → k < 3 → add_triangle f values i0 i1 i2 x0 x1 x2 ! (v * 3 + k)
      ≡ add_if (eqb i2 v) (component k x2) (add_if (eqb i1 v) (component k x1) (add_if (eqb i0 v) (component k x0) (values ! (v * 3 + k))))
  unfolding add_triangle
  triangle_at values i0 i1 i2 x0 x1 x2 h0 h1 h2 v k l =
      let one = add_vertex f values i0 x0 in
      rw (vertex_at (add_vertex f one i1 x1) i2 x2 (simp vertex_length h2) v k l, vertex_at one i1 x1 (rw vertex_length h1) v k l, vertex_at values i0 x0 h0 v k l)
