-- The masses of all vertices together (01-scope 6.3): each triangle gives its share three times, once to each of its names, so a sum over vertices is three times one over triangles.
use mathlib.Core.Path.{◌≡◌, refl, ap, ◌∙◌}
use mathlib.Core.Bool.{Bool, true, false, cond}
use mathlib.Core.List.{List, [], ◌∷◌, ◌++◌, append_assoc, append-nil}
use Prim.Native.Nat.{ℕ, ◌+◌, ◌*◌}
use native.Mathlib.Nat.{add-zero}
use native.Mathlib.Omega.{arith}
use lib.Dec.{eqb, ltb}
use lib.Ieee.{Float, Format}
use borrow.Author.Tests.{ltb-true}
use Rattle.float.specs.Lists.{◌!◌, every, fold_threes, map_threes}
use Rattle.float.proofs.Scan.{both}
use Rattle.refusal.specs.Panel.{names_below}
use Rattle.rounding.specs.Exact.{Num, Equal, ◌⊠◌, scale, OwnSize, value}
use Rattle.rounding.specs.Sums.{sum_of, exact_sum, sum_to, exact_sum_to}
use Rattle.rounding.proofs.Num.{size_equal, size_scale}
use Rattle.rounding.proofs.Error.{within_more, within_change, within_all}
use Rattle.rounding.proofs.ExactSums.{sum_append, sum_product, own_sum_to, sum_to_add, sum_to_same, sum_to_zero, sum_to_one, le_greatest}
use Rattle.places.specs.Plane.{vertices_of, corners_at, triangles}
use Rattle.places.specs.Vertex.{when, named_by, given_to}
use Rattle.del_geo_core.specs.Tri2.{Tri2}
use Rattle.masses.specs.Vertex.{triangles_of}
use Rattle.mass_bounds.specs.Shares.{twice_area, weight, exact_share, exact_mass, names_of}
use Rattle.mass_bounds.specs.Bounds.{NearExact, AddUp, SumNear}

-- ---- sums of any g over the triangles of each vertex, and over all triangles
module _ (g : Tri2 → ℕ) (vtx2xy : List Float) where
  once : (test : Bool) (p : Tri2) → sum_of g (when test p) ≡ cond test (g p) 0
  unfolding sum_of
  once true p = omega arith
  once false p = refl

  named : (v i0 i1 i2 : ℕ) → let x = g (corners_at vtx2xy i0 i1 i2) in
      sum_of g (named_by (λ c. corners_at vtx2xy) v i0 i1 i2) ≡ cond (eqb i0 v) x 0 + cond (eqb i1 v) x 0 + cond (eqb i2 v) x 0
  unfolding named_by
  named v i0 i1 i2 = simp (sum_append, once)

  module _ (n : ℕ) where
    -- s v holds the triangles of vertex v so far, t all triangles so far
    Thrice : (s : ℕ → List Tri2) (t : List Tri2) → Type 0
    Thrice s t = sum_to (λ v. sum_of g (s v)) n ≡ 3 * sum_of g t

    turn : (s : ℕ → List Tri2) (t : List Tri2) (i0 i1 i2 : ℕ) → ltb i0 n ≡ true → ltb i1 n ≡ true → ltb i2 n ≡ true → Thrice s t
        → Thrice (λ v. s v ++ named_by (λ c. corners_at vtx2xy) v i0 i1 i2) (t ++ (corners_at vtx2xy i0 i1 i2 ∷ []))
    unfolding Thrice
    turn s t i0 i1 i2 e0 e1 e2 k =
        let p = corners_at vtx2xy i0 i1 i2 in
        let to : ℕ → ℕ → ℕ = λ i v. cond (eqb i v) (g p) 0 in
        let split = sum_to_same _ (λ v. sum_of g (s v) + (to i0 v + to i1 v + to i2 v)) n
        (λ v. sum_append g (s v) _ ∙ ap (λ (z : ℕ). sum_of g (s v) + z) (named v i0 i1 i2)) in
        omega (
          arith,
          split,
          sum_to_add (λ v. sum_of g (s v)) (λ v. to i0 v + to i1 v + to i2 v) n,
          sum_to_add (λ v. to i0 v + to i1 v) (to i2) n,
          sum_to_add (to i0) (to i1) n,
          sum_to_one i0 (g p) n (ltb-true i0 n e0),
          sum_to_one i1 (g p) n (ltb-true i1 n e1),
          sum_to_one i2 (g p) n (ltb-true i2 n e2),
          sum_append g t (p ∷ []),
          once true p,
        )

    turns : (l : List ℕ) (s : ℕ → List Tri2) (t : List Tri2) → names_below n l ≡ true → Thrice s t
        → Thrice (λ v. fold_threes (λ l i0 i1 i2. l ++ named_by (λ c. corners_at vtx2xy) v i0 i1 i2) (s v) l) (t ++ map_threes (corners_at vtx2xy) l)
    unfolding fold_threes map_threes every
    turns (i0 ∷ i1 ∷ i2 ∷ l) s t e k =
        let e0 = both (ltb i0 n) _ e in
        let e1 = both (ltb i1 n) _ e0.1 in
        let e2 = both (ltb i2 n) _ e1.1 in
        rw (append_assoc t (corners_at vtx2xy i0 i1 i2 ∷ []) _) at (turns l _ _ e2.1 (turn s t i0 i1 i2 e0.0 e1.0 e2.0 k))
    turns (i0 ∷ i1 ∷ []) s t e k = rw (append-nil t) k
    turns (i0 ∷ []) s t e k = rw (append-nil t) k
    turns [] s t e k = rw (append-nil t) k

-- ---- THE theorems of 6.3
module _ (f : Format) (tri2vtx : List ℕ) (vtx2xy : List Float) (thick rho : Float) (names : names_below (vertices_of vtx2xy) tri2vtx ≡ true) where
  abbrev n : ℕ
  n = vertices_of vtx2xy

  abbrev all : List Tri2
  all = triangles tri2vtx vtx2xy

  abbrev w : Num
  w = weight f 0 thick rho

  thrice : (g : Tri2 → ℕ) → sum_to (λ v. sum_of g (triangles_of v tri2vtx vtx2xy)) n ≡ 3 * sum_of g all
  unfolding given_to triangles Thrice sum_of
  thrice g = turns g vtx2xy n tri2vtx (λ v. []) [] names (sum_to_zero n)

  exact_thrice : Equal (exact_sum_to (exact_mass f tri2vtx vtx2xy thick rho 0) n) (scale 3 (exact_sum (twice_area f) all ⊠ w))
  unfolding exact_share
  exact_thrice = omega (arith, thrice (λ p. (twice_area f p ⊠ w).plus), thrice (λ p. (twice_area f p ⊠ w).minus), sum_product (twice_area f) w all)

  pub add_up : AddUp f tri2vtx vtx2xy thick rho
  add_up = omega (arith, exact_thrice)

  -- each vertex's bound, with the greatest count of names for its own; the sizes of exact masses that are not negative add up to that of their sum
  pub sum_near : ((v : ℕ) → OwnSize (exact_mass f tri2vtx vtx2xy thick rho 0 v)) → (masses : List Float) → NearExact f tri2vtx vtx2xy thick rho masses
      → SumNear f tri2vtx vtx2xy thick rho masses
  sum_near own masses near =
      let sizes = (own_sum_to (exact_mass f tri2vtx vtx2xy thick rho 0) n own).1 ∙ size_equal _ _ exact_thrice ∙ size_scale 3 (exact_sum (twice_area f) all ⊠ w) in
      within_change 1 3 (omega arith) (omega arith) (omega (arith, exact_thrice)) (omega (arith, sizes))
      (within_all (λ v. value f (masses ! (v * 3))) _ _ n
      (λ v h. within_more (omega (arith, le_greatest (names_of tri2vtx vtx2xy) n v h)) (rw (add-zero (v * 3)) at (near.near v 0 h (omega arith)))))
