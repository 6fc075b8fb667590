-- d is the count of v in the list: a triangle counts for v once for each of its names that is v, and where 3 divides the list's length no name is left over.
use mathlib.Core.Path.{◌≡◌, refl}
use mathlib.Core.Bool.{Bool, true, false, cond}
use mathlib.Core.List.{List, [], ◌∷◌, ◌++◌}
use Prim.Native.Nat.{ℕ, ◌+◌, ◌%◌}
use native.Mathlib.Omega.{arith}
use lib.Dec.{eqb}
use lib.Ieee.{Float}
use lib.ListN.{length, length-append}
use Rattle.float.specs.Lists.{fold_threes}
use Rattle.rounding.specs.Sums.{sum_of}
use Rattle.places.specs.Plane.{corners_at}
use Rattle.places.specs.Vertex.{when, named_by, given_to}
use Rattle.del_geo_core.specs.Tri2.{Tri2}
use Rattle.mass_bounds.specs.Shares.{names_of, count_of}

once : (test : Bool) (p : Tri2) → length (when test p) ≡ cond test 1 0
once true p = refl
once false p = refl

module _ (v : ℕ) (vtx2xy : List Float) where
  -- s holds the triangles of v so far
  go : (l : List ℕ) (s : List Tri2) → length l % 3 ≡ 0 → length (fold_threes (λ l i0 i1 i2. l ++ named_by (λ c. corners_at vtx2xy) v i0 i1 i2) s l) ≡ length s + count_of v l
  unfolding fold_threes named_by sum_of
  go (i0 ∷ i1 ∷ i2 ∷ l) s e =
      let p = corners_at vtx2xy i0 i1 i2 in
      omega (
        arith,
        go l (s ++ named_by (λ c. corners_at vtx2xy) v i0 i1 i2) (omega (arith, e)),
        length-append s (named_by (λ c. corners_at vtx2xy) v i0 i1 i2),
        length-append (when (eqb i0 v) p ++ when (eqb i1 v) p) (when (eqb i2 v) p),
        length-append (when (eqb i0 v) p) (when (eqb i1 v) p),
        once (eqb i0 v) p,
        once (eqb i1 v) p,
        once (eqb i2 v) p,
      )
  go (i0 ∷ i1 ∷ []) s e = omega (arith, e)
  go (i0 ∷ []) s e = omega (arith, e)
  go [] s e = omega arith

  pub names_counted : (tri2vtx : List ℕ) → length tri2vtx % 3 ≡ 0 → names_of tri2vtx vtx2xy v ≡ count_of v tri2vtx
  unfolding given_to
  names_counted tri2vtx e = omega (arith, go tri2vtx [] e)
