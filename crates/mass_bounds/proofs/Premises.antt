-- What the tests of 01-scope 6.2 say: a coordinate is a whole multiple of 1, density and thickness lie between 1 / R and R.
use mathlib.Core.Path.{◌≡◌}
use mathlib.Core.Bool.{true, not, ◌&&◌}
use mathlib.Core.List.{List, [], ◌∷◌}
use Prim.Native.Nat.{ℕ, ◌*◌}
use lib.Dec.{leb}
use lib.Ieee.{Float, Format}
use borrow.Author.Tests.{leb-true, not-true}
use Rattle.float.specs.Lists.{every, All, map_threes}
use Rattle.float.proofs.Scan.{both}
use Rattle.rounding.specs.Exact.{mag, sign}
use Rattle.rounding.specs.Whole.{unit, is_number, is_whole_up_to}
use Rattle.rounding.proofs.Margin.{Between}
use Rattle.rounding.proofs.Whole.{number_iff, Coordinate, coordinate}
use Rattle.del_geo_core.specs.declared.tri2.V2.{V2}
use Rattle.del_geo_core.specs.Tri2.{Tri2}
use Rattle.places.specs.Plane.{point_at, corners_at, triangles}
use Rattle.mass_bounds.specs.Range.{between, whole_at, in_range}

is_between : (f : Format) (R : ℕ) (x : Float) → between f R x ≡ true → Between f R x
unfolding between
is_between f R x e =
    let t = both (is_number f x && not (sign x) && leb (unit f) (R * mag f x)) _ e in
    let l = both (is_number f x && not (sign x)) _ t.0 in
    let n = both (is_number f x) _ l.0 in
    record { number = (number_iff f x).0 n.0; above = not-true _ n.1; least = leb-true _ _ l.1; most = leb-true _ _ t.1 }

abbrev pub Point : Format → ℕ → V2 → Type 0
Point f B p = Coordinate f B p.x × Coordinate f B p.y

abbrev pub Corners : Format → ℕ → Tri2 → Type 0
Corners f B p = Point f B p.p0 × Point f B p.p1 × Point f B p.p2

-- ---- THE law of the premises
module _ (f : Format) (B : ℕ) (vtx2xy : List Float) where
  pub point : (i : ℕ) → whole_at f B vtx2xy i ≡ true → Point f B (point_at vtx2xy i)
  point i e = let t = both (is_whole_up_to f B (point_at vtx2xy i).x) _ e in (coordinate f B _ t.0, coordinate f B _ t.1)

  pub all_corners : (tri2vtx : List ℕ) → every (whole_at f B vtx2xy) tri2vtx ≡ true → All (Corners f B) (triangles tri2vtx vtx2xy)
  unfolding triangles every map_threes corners_at
  all_corners (i0 ∷ i1 ∷ i2 ∷ l) e =
      let e0 = both (whole_at f B vtx2xy i0) _ e in
      let e1 = both (whole_at f B vtx2xy i1) _ e0.1 in
      let e2 = both (whole_at f B vtx2xy i2) _ e1.1 in
      ((point i0 e0.0, point i1 e1.0, point i2 e2.0), all_corners l e2.1)
  all_corners (i0 ∷ i1 ∷ []) e = tt
  all_corners (i0 ∷ []) e = tt
  all_corners [] e = tt

  pub in_range_lem : (R : ℕ) (tri2vtx : List ℕ) (thick rho : Float) → in_range f B R tri2vtx vtx2xy thick rho ≡ true
      → Between f R thick × Between f R rho × (every (whole_at f B vtx2xy) tri2vtx ≡ true)
  unfolding in_range
  in_range_lem R tri2vtx thick rho e =
      let t = both (between f R rho && between f R thick) _ e in
      let b = both (between f R rho) _ t.0 in
      (is_between f R thick b.1, is_between f R rho b.0, t.1)
