-- How near the numbers of a buffer are to a panel's exact masses (01-scope 6.2, 6.3): fractions multiplied out, all in whole numbers.
use Rattle.std.specs.Prelude.{◌≡◌, true, false, List, ℕ, zero, suc, ◌+◌, ◌*◌, ◌^◌, ◌<◌, Float, length}
use Rattle.std.specs.Float.{Format}
use Rattle.std.specs.Float.Ieee.{prec}
use Rattle.float.specs.Lists.{◌!◌, every, All}
use Rattle.refusal.specs.Refusal.{accepted}
use Rattle.refusal.specs.Panel.{bad_length_of, names_below}
use Rattle.rounding.specs.Exact.{Equal, ◌⊠◌, scale, size_of, OwnSize, value}
use Rattle.rounding.specs.Error.{Within}
use Rattle.rounding.specs.Sums.{sum_of, exact_sum, exact_sum_to, greatest}
use Rattle.rounding.specs.Whole.{unit, is_number}
use Rattle.places.specs.Plane.{vertices_of, triangles}
use Rattle.masses.specs.Vertex.{triangles_of}
use Rattle.mass_bounds.specs.Shares.{names_of, twice_area, SomeNegative, weight, exact_share, over, exact_mass}

-- the 3 of d + 3 for the translation, the 6 of d + 6 for the rotations
abbrev pub roundings : (k : ℕ) → ℕ
roundings zero = 3
roundings (suc k) = 6

-- right lengths and names, and no triangle whose exact area is negative
pub record Proper (f : Format) (tri2vtx : List ℕ) (vtx2xy before : List Float) : Type 0 where
  pub lengths : bad_length_of (vertices_of vtx2xy) (length tri2vtx) (length before) ≡ false
  pub names : names_below (vertices_of vtx2xy) tri2vtx ≡ true
  pub turns : SomeNegative f tri2vtx vtx2xy → ⊥

module _ (f : Format) (tri2vtx : List ℕ) (vtx2xy : List Float) (thick rho : Float) where
  -- of ANY buffer: three numbers for each vertex, at each place |stored - exact| * 2 ^ prec <= (d + 3) * |exact|, or (d + 6) * |exact|
  pub record NearExact (masses : List Float) : Type 0 where
    pub sized : length masses ≡ vertices_of vtx2xy * 3
    pub numbers : every (is_number f) masses ≡ true
    pub near : (v k : ℕ) → v < vertices_of vtx2xy → k < 3
        → let exact = exact_mass f tri2vtx vtx2xy thick rho k v in
        Within (2 ^ prec f) (names_of tri2vtx vtx2xy v + roundings k) (over f k) (value f (masses ! (v * 3 + k))) exact (size_of exact)

  -- the exact masses of all vertices, over 6, are density * thickness * the sum of (x1 - x0)(y2 - y0) - (x2 - x0)(y1 - y0) over the triangles, over 2
  abbrev pub AddUp : Type 0
  AddUp =
      Equal (scale 2 (exact_sum_to (exact_mass f tri2vtx vtx2xy thick rho 0) (vertices_of vtx2xy)))
      (scale 6 (exact_sum (twice_area f) (triangles tri2vtx vtx2xy) ⊠ weight f 0 thick rho))

  -- the stored translational masses together, within (D + 3) / 2 ^ prec of density * thickness * that sum, over 2; D is the greatest d
  abbrev pub SumNear : (masses : List Float) → Type 0
  SumNear masses =
      let exact = exact_sum (twice_area f) (triangles tri2vtx vtx2xy) ⊠ weight f 0 thick rho in
      let D = greatest (names_of tri2vtx vtx2xy) (vertices_of vtx2xy) in
      Within (2 ^ prec f) (D + 3) (2 * unit f ^ 3) (exact_sum_to (λ v. value f (masses ! (v * 3))) (vertices_of vtx2xy)) exact (size_of exact)

  -- Demand 3, of a panel in range for which r was given and whose buffer was `before` and is `after`
  pub record Demand3 (before : List Float) (r : ℕ) (after : List Float) : Type 0 where
    pub accepts : Proper f tri2vtx vtx2xy before → r ≡ accepted
    -- where it is accepted, each exact share is its own size, so that the sum of the sizes of a vertex's shares is its exact mass
    pub own_sizes : r ≡ accepted → (k : ℕ) → All (λ p. OwnSize (exact_share f k thick rho p)) (triangles tri2vtx vtx2xy)
    pub sizes : r ≡ accepted → (v k : ℕ) → sum_of (λ p. size_of (exact_share f k thick rho p)) (triangles_of v tri2vtx vtx2xy) ≡ size_of (exact_mass f tri2vtx vtx2xy thick rho k v)
    pub near : r ≡ accepted → NearExact after
    pub add_up : r ≡ accepted → AddUp
    pub sum_near : r ≡ accepted → SumNear after
