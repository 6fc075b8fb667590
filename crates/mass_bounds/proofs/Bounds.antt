-- Demand 3 of what `mass_lumped_plate_bending` leaves (01-scope 6.1 to 6.4): every place holds its vertex's sum of shares, and those sums are finite and near the exact masses.
use mathlib.Core.Path.{◌≡◌, refl}
use mathlib.Core.Bool.{Bool, true, false}
use mathlib.Core.List.{List}
use mathlib.Core.Logic.{◌↔◌}
use Prim.Native.Nat.{ℕ, ◌+◌, ◌*◌, ◌/◌, ◌%◌, ◌≤◌, ◌<◌}
use native.Mathlib.Omega.{arith}
use lib.Dec.{lit≤, lit<}
use lib.ListN.{length, get_or}
use lib.Ieee.{Float, nan, Format, binary64, fits}
use lib.Ieee.Bits.{is_true}
use lib.Ieee.Scale.{finite}
use borrow.Author.Tests.{not-false}
use Rattle.float.specs.Lists.{◌!◌, All, every, all_finite, total}
use Rattle.float.proofs.Scan.{both, every_at, every_iff}
use Rattle.refusal.specs.Refusal.{accepted, bad_length, bad_name, bad_input, turned, Clear}
use Rattle.refusal.specs.Panel.{max_triangles, bad_length_of, names_below}
use Rattle.refusal.proofs.Panel.{sized}
use Rattle.rounding.specs.Exact.{size_of, OwnSize}
use Rattle.rounding.specs.Sums.{sum_of}
use Rattle.rounding.specs.Whole.{is_number}
use Rattle.rounding.proofs.ExactSums.{own_sum}
use Rattle.rounding.proofs.Whole.{number_iff}
use Rattle.material.specs.declared.Material.{Material}
use Rattle.mitc_tri3.specs.Example as example
use Rattle.places.specs.Plane.{vertices_of, point_at, corners_at, triangles, named_finite}
use Rattle.places.proofs.Vertex.{given_all}
use Rattle.corners.specs.Plane.{point_finite}
use Rattle.masses.specs.Masses.{masses_of}
use Rattle.masses.specs.Vertex.{triangles_of, share_of}
use Rattle.masses.proofs.Vertex.{masses_sized, masses_hold}
use Rattle.mitc_tri3.specs.Masses.{bad_input_of, SomeTurned, rows_of, buffer_of, IsMasses}
use Rattle.mitc_tri3.proofs.MassesAnswer.{some_turned, numbers_exactly, accepted_unturned, accepted_masses}
use Rattle.mass_bounds.specs.Range.{largest_coordinate, largest_factor, whole_at, in_range}
use Rattle.mass_bounds.specs.Shares.{SomeNegative, exact_share, exact_mass}
use Rattle.mass_bounds.specs.Bounds.{Proper, NearExact, SumNear, Demand3}
use Rattle.mass_bounds.specs.Example.{names, first_names, untouched, sharp_points, sharp_rho, sharp_thick, sharp_sheet, sharp_before}
use Rattle.mass_bounds.proofs.RuledOut.{meets, proper}
use Rattle.mass_bounds.proofs.Sharp as sharp
use Rattle.mass_bounds.proofs.Premises.{point, in_range_lem}
use Rattle.mass_bounds.proofs.Turned.{turned_negative, refused_6_exactly, own_shares}
use Rattle.mass_bounds.proofs.Share.{Margins}
use Rattle.mass_bounds.proofs.Vertex.{vertex}
use Rattle.mass_bounds.proofs.Sums.{add_up, sum_near}

module _ (f : Format) {B R N : ℕ} (m : Margins f B R N) (tri2vtx : List ℕ) (vtx2xy : List Float) (material : Material) (before : List Float)
    (range : in_range f B R tri2vtx vtx2xy material.thickness material.density ≡ true) where
  abbrev thick : Float
  thick = material.thickness

  abbrev rho : Float
  rho = material.density

  abbrev vertices : ℕ
  vertices = vertices_of vtx2xy

  abbrev masses : List Float
  masses = masses_of f tri2vtx vtx2xy thick rho before

  some_negative : SomeTurned f tri2vtx vtx2xy ↔ SomeNegative f tri2vtx vtx2xy
  some_negative = turned_negative f B m.wide tri2vtx vtx2xy (in_range_lem f B vtx2xy R tri2vtx thick rho range).2

  -- ---- its exact shares, where no triangle is negative: each is its own size, and a vertex's exact mass is the sum of its shares' sizes
  module _ (none : SomeNegative f tri2vtx vtx2xy → ⊥) where
    own_sizes : (k : ℕ) → All (λ p. OwnSize (exact_share f k thick rho p)) (triangles tri2vtx vtx2xy)
    own_sizes = let (t, r, _) = in_range_lem f B vtx2xy R tri2vtx thick rho range in own_shares f thick rho t r tri2vtx vtx2xy none

    own_mass : (v k : ℕ) → let exact = exact_mass f tri2vtx vtx2xy thick rho k v in
        OwnSize exact × (sum_of (λ p. size_of (exact_share f k thick rho p)) (triangles_of v tri2vtx vtx2xy) ≡ size_of exact)
    unfolding triangles
    own_mass v k = own_sum (exact_share f k thick rho) (triangles_of v tri2vtx vtx2xy) (given_all (corners_at vtx2xy) (λ p. OwnSize (exact_share f k thick rho p)) v tri2vtx (own_sizes k))

  -- ---- the masses of a panel in range, whether or not they are accepted
  module _ (threes : length tri2vtx % 3 ≡ 0) (size : length before ≡ vertices * 3) (below : names_below vertices tri2vtx ≡ true) (few : length tri2vtx ≤ N) where
    holds : (v k : ℕ) → v < vertices → k < 3 → masses ! (v * 3 + k) ≡ total f (share_of f k thick rho) (triangles_of v tri2vtx vtx2xy)
    holds = masses_hold f tri2vtx vtx2xy thick rho before size below

    masses_numbers : every (is_number f) masses ≡ true
    masses_numbers = (every_iff (is_number f) masses nan).1 place
      where
        place : (j : ℕ) → j < length masses → is_number f (masses ! j) ≡ true
        place j h =
            let s : length masses ≡ vertices * 3 = masses_sized f tri2vtx vtx2xy thick rho before size below in
            let e : j / 3 * 3 + j % 3 ≡ j = omega arith in
            let v = vertex f m tri2vtx vtx2xy thick rho threes few range (j / 3) (j % 3) in
            rw (← holds (j / 3) (j % 3) (omega arith) (omega arith), e) at ((number_iff f _).1 v.0)

    masses_finite : all_finite masses ≡ true
    masses_finite = (every_iff finite masses nan).1 (λ j h. (both (fits f (masses ! j)) _ (every_at (is_number f) masses j nan masses_numbers h)).1)

    masses_near : (SomeNegative f tri2vtx vtx2xy → ⊥) → NearExact f tri2vtx vtx2xy thick rho masses
    masses_near none = record {
      sized = masses_sized f tri2vtx vtx2xy thick rho before size below;
      numbers = masses_numbers;
      near = λ v k h k3. rw (holds v k h k3, ← (own_mass none v k).1) (vertex f m tri2vtx vtx2xy thick rho threes few range v k).1;
    }

  inputs_good : bad_input_of tri2vtx vtx2xy thick rho ≡ false
  unfolding bad_input_of named_finite
  inputs_good =
      let (t, r, whole) = in_range_lem f B vtx2xy R tri2vtx thick rho range in
      rw (is_true (finite thick) t.number.fine, is_true (finite rho) r.number.fine, (every_iff _ tri2vtx 0).1 (λ j h. good (get_or tri2vtx j 0) (every_at _ tri2vtx j 0 whole h)))
    where
      good : (i : ℕ) → whole_at f B vtx2xy i ≡ true → point_finite (point_at vtx2xy i) ≡ true
      good i e = let p = point f B vtx2xy i e in rw (is_true (finite (point_at vtx2xy i).x) p.0.number.fine, is_true (finite (point_at vtx2xy i).y) p.1.number.fine)

  -- ---- THE theorem of demand 3, of a format with these margins: with the right lengths there are no more than N names
  module _ {r : ℕ} {after : List Float} (is : IsMasses f tri2vtx vtx2xy material before r after) (few : bad_length_of vertices (length tri2vtx) (length before) ≡ false → length tri2vtx ≤ N) where
    accepts : Proper f tri2vtx vtx2xy before → r ≡ accepted
    accepts proper =
        let lengths = proper.lengths in
        let below = proper.names in
        let (threes, size, _) = sized _ _ _ lengths in
        (numbers_exactly f tri2vtx vtx2xy material before is).accepted_exactly.1
        (lengths, (rw below, (inputs_good, (rw (decided _ (λ e. proper.turns (some_negative.0 ((some_turned f tri2vtx vtx2xy).0 e)))), (rw (masses_finite threes size below (few lengths)), tt)))))
      where
        decided : (test : Bool) → (test ≡ false → ⊥) → test ≡ true
        decided true h = refl
        decided false h = absurd (h refl)

    module _ (e : r ≡ accepted) where
      cleared : Clear (rows_of f tri2vtx vtx2xy thick rho before)
      cleared = (numbers_exactly f tri2vtx vtx2xy material before is).accepted_exactly.0 e

      named : names_below vertices tri2vtx ≡ true
      named = not-false _ cleared.1.0

      none : SomeNegative f tri2vtx vtx2xy → ⊥
      none n = accepted_unturned f tri2vtx vtx2xy material before is e (some_negative.1 n)

      near : NearExact f tri2vtx vtx2xy thick rho after
      near =
          let (threes, size, _) = sized _ _ _ cleared.0 in
          rw (accepted_masses f tri2vtx vtx2xy material before is e) (masses_near threes size named (few cleared.0) none)

      summed : SumNear f tri2vtx vtx2xy thick rho after
      summed = sum_near f tri2vtx vtx2xy thick rho named (λ v. (own_mass none v 0).0) after near

    pub demand : Demand3 f tri2vtx vtx2xy thick rho before r after
    demand = record {
      accepts = accepts;
      own_sizes = λ e. own_sizes (none e);
      sizes = λ e v k. (own_mass (none e) v k).1;
      near = near;
      add_up = λ e. add_up f tri2vtx vtx2xy thick rho (named e);
      sum_near = summed;
    }

-- ---- binary64
margins : Margins binary64 largest_coordinate largest_factor (max_triangles * 3)
margins = record { wide = lit< tt; few = lit≤ tt; high = lit≤ tt }

pub demand_3 : (tri2vtx : List ℕ) (vtx2xy : List Float) (material : Material) (before : List Float) {r : ℕ} {after : List Float} → IsMasses binary64 tri2vtx vtx2xy material before r after
    → let thick = material.thickness in let rho = material.density in
    in_range binary64 largest_coordinate largest_factor tri2vtx vtx2xy thick rho ≡ true → Demand3 binary64 tri2vtx vtx2xy thick rho before r after
demand_3 tri2vtx vtx2xy material before is range = demand binary64 margins tri2vtx vtx2xy material before range is (λ lengths. (sized _ _ _ lengths).2)

-- no rounding can hide or make a turn of whole corners: of the coordinates alone something is asked
pub turned_exactly : (tri2vtx : List ℕ) (vtx2xy : List Float) (material : Material) (before : List Float) {r : ℕ} {after : List Float}
    → IsMasses binary64 tri2vtx vtx2xy material before r after → every (whole_at binary64 largest_coordinate vtx2xy) tri2vtx ≡ true
    → (r ≡ bad_length → ⊥) → (r ≡ bad_name → ⊥) → (r ≡ bad_input → ⊥) → r ≡ turned ↔ SomeNegative binary64 tri2vtx vtx2xy
turned_exactly tri2vtx vtx2xy material before is whole = refused_6_exactly binary64 largest_coordinate margins.wide tri2vtx vtx2xy whole material before is

pub met : let thick = example.thick in let rho = example.rho in NearExact binary64 names example.points thick rho (buffer_of binary64 names example.points thick rho untouched)
met = let d = demand_3 names example.points example.sheet untouched (refl, refl) meets in d.near (d.accepts proper)

pub met_sharp : NearExact binary64 first_names sharp_points sharp_thick sharp_rho (buffer_of binary64 first_names sharp_points sharp_thick sharp_rho sharp_before)
met_sharp = let d = demand_3 first_names sharp_points sharp_sheet sharp_before (refl, refl) sharp.meets in d.near (d.accepts sharp.proper)
