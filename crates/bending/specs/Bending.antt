-- The numbers of `wdw` of quadratic_bending.rs (01-scope 5.6), under the source's names, over the format.
use Rattle.std.specs.Prelude.{cond, List, [], ◌∷◌, eqb, Float}
use Rattle.std.specs.Float.{Format}
use Rattle.std.specs.Float.Ieee.{neg}
use Rattle.float.specs.Ops.{ops}
use Rattle.float.specs.Lists.{◌!◌, ◌!!◌, table, each}
use Rattle.root.specs.Root.{root_of}
use Rattle.vec3.specs.Vec3.{point_of, dot_of, sub_of}
use Rattle.del_geo_core.specs.Edge.{length_of}
use Rattle.del_geo_core.specs.Tri3.{area_of}
use Rattle.bending.specs.declared.Fold.{Fold}
use Rattle.bending.specs.declared.Divisors.{Divisors}

abbrev pub corners_of : List (List Float) → Fold
corners_of p = record { p0 = point_of (p !! 0); p1 = point_of (p !! 1); p2 = point_of (p !! 2); p3 = point_of (p !! 3) }

module _ (f : Format) where
  open ops f use {◌⊕◌, ◌⊖◌, ◌⊗◌, ◌⊘◌, zero, two, three}

  infixl 75 ◌⊕◌ ◌⊖◌
  infixl 80 ◌⊗◌ ◌⊘◌
  -- every number that divides: len, h0, h1, and root(area0 + area1) * len
  unfoldable pub divisors_of : Fold → Divisors
  divisors_of p =
      let area0 = area_of f p.p0 p.p2 p.p3 in
      let area1 = area_of f p.p1 p.p3 p.p2 in
      let len = length_of f p.p2 p.p3 in
      record { len = len; h0 = two ⊗ area0 ⊘ len; h1 = two ⊗ area1 ⊘ len; root_len = root_of f (area0 ⊕ area1) ⊗ len }

  unfoldable pub k_of : Fold → Divisors → List Float
  k_of p d =
      let e23 = sub_of f p.p3 p.p2 in
      let e02 = sub_of f p.p2 p.p0 in
      let e03 = sub_of f p.p3 p.p0 in
      let e12 = sub_of f p.p2 p.p1 in
      let e13 = sub_of f p.p3 p.p1 in
      let cot023 = neg (dot_of f e02 e23) ⊘ d.h0 in
      let cot032 = dot_of f e03 e23 ⊘ d.h0 in
      let cot123 = neg (dot_of f e12 e23) ⊘ d.h1 in
      let cot132 = dot_of f e13 e23 ⊘ d.h1 in
      let tmp0 = root_of f three ⊘ d.root_len in
      (neg cot023 ⊖ cot032) ⊗ tmp0 ∷ (neg cot123 ⊖ cot132) ⊗ tmp0 ∷ (cot032 ⊕ cot132) ⊗ tmp0 ∷ (cot023 ⊕ cot123) ⊗ tmp0 ∷ []

  unfoldable pub w_of : (k : List Float) (p : Fold) → List Float
  w_of k p =
      (k ! 0 ⊗ p.p0.x ⊕ k ! 1 ⊗ p.p1.x ⊕ k ! 2 ⊗ p.p2.x ⊕ k ! 3 ⊗ p.p3.x)
      ∷ (k ! 0 ⊗ p.p0.y ⊕ k ! 1 ⊗ p.p1.y ⊕ k ! 2 ⊗ p.p2.y ⊕ k ! 3 ⊗ p.p3.y)
      ∷ (k ! 0 ⊗ p.p0.z ⊕ k ! 1 ⊗ p.p1.z ⊕ k ! 2 ⊗ p.p2.z ⊕ k ! 3 ⊗ p.p3.z)
      ∷ []

  -- dwdp[i_dim][node][dim]: k[node] where dim is i_dim, else +0
  unfoldable pub dwdp_of : (k : List Float) → List Float
  dwdp_of k = each 3 (λ i_dim. each 4 (λ node. table 3 (λ dim. cond (eqb dim i_dim) (k ! node) zero)))

  -- what the source answers: w and dwdp
  unfoldable pub wdw_of : (ini def : Fold) → List Float × List Float
  wdw_of ini def = let k = k_of ini (divisors_of ini) in (w_of k def, dwdp_of k)
