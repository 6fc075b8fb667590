-- Exact areas and exact shares of mass (01-scope 6.1), from the coordinates. An exact number counts units of 2 ^ -low (`value`), a product of n of them units of 2 ^ -(n * low).
use Rattle.std.specs.Prelude.{cond, List, ℕ, zero, suc, ◌*◌, ◌^◌, eqb, Float, length}
use Rattle.std.specs.Float.{Format}
use Rattle.float.specs.Lists.{Some}
use Rattle.rounding.specs.Exact.{Num, ◌⊟◌, ◌⊠◌, Negative, value}
use Rattle.rounding.specs.Sums.{sum_of, exact_sum}
use Rattle.rounding.specs.Whole.{unit}
use Rattle.del_geo_core.specs.Tri2.{Tri2}
use Rattle.places.specs.Plane.{triangles}
use Rattle.masses.specs.Vertex.{triangles_of}

-- d: how often the list names vertex v; where 3 divides its length, that is the count of v in it (proofs/Names.antt)
abbrev pub names_of : (tri2vtx : List ℕ) (vtx2xy : List Float) (v : ℕ) → ℕ
names_of tri2vtx vtx2xy v = length (triangles_of v tri2vtx vtx2xy)

abbrev pub count_of : (v : ℕ) (names : List ℕ) → ℕ
count_of v names = sum_of (λ i. cond (eqb i v) 1 0) names

module _ (f : Format) where
  -- twice the signed area
  unfoldable pub twice_area : Tri2 → Num
  twice_area p =
      let x0 = value f p.p0.x in
      let y0 = value f p.p0.y in
      let x1 = value f p.p1.x in
      let y1 = value f p.p1.y in
      let x2 = value f p.p2.x in
      let y2 = value f p.p2.y in
      (x1 ⊟ x0) ⊠ (y2 ⊟ y0) ⊟ (x2 ⊟ x0) ⊠ (y1 ⊟ y0)

  -- some triangle's exact signed area is negative
  abbrev pub SomeNegative : (tri2vtx : List ℕ) (vtx2xy : List Float) → Type 0
  SomeNegative tri2vtx vtx2xy = Some (λ p. Negative (twice_area p)) (triangles tri2vtx vtx2xy)

  -- density * thickness at place 0, the translation; density * thickness ^ 3 at places 1 and 2, the rotations
  unfoldable pub weight : (k : ℕ) (thick rho : Float) → Num
  weight zero thick rho = value f rho ⊠ value f thick
  weight (suc k) thick rho = value f rho ⊠ (value f thick ⊠ value f thick ⊠ value f thick)

  -- a triangle's share is exact_share / over: over 6, or 72, and in a stored number's units
  unfoldable pub exact_share : (k : ℕ) (thick rho : Float) → Tri2 → Num
  exact_share k thick rho p = twice_area p ⊠ weight k thick rho

  abbrev pub over : (k : ℕ) → ℕ
  over zero = 6 * unit f ^ 3
  over (suc k) = 72 * unit f ^ 5

  module _ (tri2vtx : List ℕ) (vtx2xy : List Float) (thick rho : Float) where
    -- the shares of a vertex's d names, added: its exact mass
    abbrev pub exact_mass : (k v : ℕ) → Num
    exact_mass k v = exact_sum (exact_share k thick rho) (triangles_of v tri2vtx vtx2xy)
