-- A vertex's shares, added from +0, are finite and near the exact sum: each share is, with a margin for as many of them as there are names.
use mathlib.Core.Path.{◌≡◌}
use mathlib.Core.Bool.{Bool, true, false, cond}
use mathlib.Core.List.{List, [], ◌∷◌}
use Prim.Native.Nat.{ℕ, zero, suc, ◌+◌, ◌%◌, ◌^◌, ◌≤◌, ◌<◌}
use native.Mathlib.Nat.{add_comm, mul-pos, le_refl, one-le-pow}
use native.Mathlib.Omega.{arith}
use lib.Dec.{eqb, lit≤}
use lib.ListN.{length}
use lib.Pow.{pow_pos}
use lib.Ieee.{Float, Format, prec, low}
use Rattle.float.specs.Lists.{total}
use Rattle.float.proofs.Each.{all_map}
use Rattle.rounding.specs.Exact.{size_of, value, Number}
use Rattle.rounding.specs.Error.{Within}
use Rattle.rounding.specs.Sums.{sum_of, exact_sum}
use Rattle.rounding.specs.Whole.{unit}
use Rattle.rounding.proofs.Margin.{safe_sum}
use Rattle.places.specs.Plane.{corners_at, triangles}
use Rattle.places.proofs.Vertex.{given_all}
use Rattle.masses.specs.Vertex.{triangles_of, share_of}
use Rattle.mass_bounds.specs.Range.{in_range}
use Rattle.mass_bounds.specs.Shares.{count_of, exact_share, over}
use Rattle.mass_bounds.specs.Bounds.{roundings}
use Rattle.mass_bounds.proofs.Names.{names_counted}
use Rattle.mass_bounds.proofs.Premises.{Corners, all_corners, in_range_lem}
use Rattle.mass_bounds.proofs.Share.{Margins, share_safe}

-- a vertex is named no more often than there are names
count_most : (v : ℕ) (l : List ℕ) → count_of v l ≤ length l
unfolding sum_of
count_most v [] = le_refl 0
count_most v (i ∷ l) = omega (arith, one (eqb i v), count_most v l)
  where
    one : (test : Bool) → cond test 1 0 ≤ 1
    one true = lit≤ tt
    one false = lit≤ tt

-- ---- THE law of a vertex
module _ (f : Format) {B R N : ℕ} (m : Margins f B R N) (tri2vtx : List ℕ) (vtx2xy : List Float) (thick rho : Float) (threes : length tri2vtx % 3 ≡ 0) (few : length tri2vtx ≤ N)
    (range : in_range f B R tri2vtx vtx2xy thick rho ≡ true) where
  pub vertex : (v k : ℕ) → let l = triangles_of v tri2vtx vtx2xy in let stored = total f (share_of f k thick rho) l in Number f stored
      × Within (2 ^ prec f) (length l + roundings k) (over f k) (value f stored) (exact_sum (exact_share f k thick rho) l) (sum_of (λ p. size_of (exact_share f k thick rho p)) l)
  unfolding triangles
  vertex v k =
      let (t, r, whole) = in_range_lem f B vtx2xy R tri2vtx thick rho range in
      let l = triangles_of v tri2vtx vtx2xy in
      let corners = given_all (corners_at vtx2xy) (Corners f B) v tri2vtx (all_corners f B vtx2xy tri2vtx whole) in
      let shares = all_map (λ p c. share_safe f m thick rho t r p c k) l corners in
      let enough : roundings k + length l ≤ N + 6 = omega (arith, six k, names_counted v vtx2xy tri2vtx threes, count_most v tri2vtx, few) in
      let s = safe_sum f (share_of f k thick rho) (roundings k) (over f k) (exact_share f k thick rho) (N + 6) l shares (some k) enough (omega arith) m.few in
      (s.0, rw (add_comm (roundings k) (length l)) at s.1)
    where
      six : (k : ℕ) → roundings k ≤ 6
      six zero = lit≤ tt
      six (suc k) = lit≤ tt

      some : (k : ℕ) → 0 < over f k
      some zero = mul-pos (lit≤ tt) (one-le-pow 3 (unit f) (pow_pos (low f)))
      some (suc k) = mul-pos (lit≤ tt) (one-le-pow 5 (unit f) (pow_pos (low f)))
