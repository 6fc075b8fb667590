-- What 6.2 asks can be met, and `NearExact` is false of an untouched buffer, of zeros, of the first triangle's masses alone, and of any one buffer for two panels (01-scope 8.2): at one
-- place of each, by computing.
use mathlib.Core.Path.{◌≡◌, refl}
use mathlib.Core.Bool.{true}
use mathlib.Core.List.{List}
use mathlib.Core.Logic.{inl, inr}
use Prim.Native.Nat.{ℕ, ◌+◌, ◌*◌, ◌^◌, ◌≤◌, ◌<◌}
use lib.Dec.{lit<, le→leb, lt→ltb}
use lib.Ieee.{Float, Format, binary64, prec, fits}
use Rattle.float.specs.Lists.{every, fold_threes, map_threes}
use Rattle.refusal.specs.Panel.{within_limits, bad_length_of}
use Rattle.places.specs.Plane.{vertices_of, corners_at, triangles}
use Rattle.places.specs.Vertex.{named_by, given_to}
use Rattle.rounding.specs.Exact.{◌⊟◌, mag, sign, size_of, value}
use Rattle.rounding.specs.Sums.{sum_of}
use Rattle.rounding.specs.Whole.{is_whole_up_to}
use Rattle.rounding.proofs.Error.{within_apart}
use Rattle.mitc_tri3.specs.Example.{points, thick, rho}
use Rattle.mass_bounds.specs.Range.{largest_coordinate, largest_factor, between, in_range}
use Rattle.mass_bounds.specs.Shares.{names_of, twice_area, SomeNegative, weight, exact_share, exact_mass}
use Rattle.mass_bounds.specs.Bounds.{roundings, Proper, NearExact}
use Rattle.mass_bounds.specs.Example.{names, first_names, untouched, all_zero, first_only}

pub meets : in_range binary64 largest_coordinate largest_factor names points thick rho ≡ true
unfolding in_range between is_whole_up_to every fits mag sign
meets = refl

pub proper : Proper binary64 names points untouched
unfolding bad_length_of within_limits every value twice_area triangles map_threes corners_at
proper = record { lengths = refl; names = refl; turns = turns }
  where
    turns : SomeNegative binary64 names points → ⊥
    turns (inl h) = lt→ltb _ _ h
    turns (inr (inl h)) = lt→ltb _ _ h
    turns (inr (inr n)) = n

pub not_untouched : NearExact binary64 names points thick rho untouched → ⊥
unfolding value sum_of twice_area weight exact_share given_to named_by corners_at fold_threes
not_untouched h = le→leb _ _ (h.near 0 0 (lit< tt) (lit< tt)).within

pub not_zero : NearExact binary64 names points thick rho all_zero → ⊥
unfolding value sum_of twice_area weight exact_share given_to named_by corners_at fold_threes
not_zero h = le→leb _ _ (h.near 0 0 (lit< tt) (lit< tt)).within

-- vertex 3 is named by the second triangle
pub not_first_only : NearExact binary64 names points thick rho first_only → ⊥
unfolding value sum_of twice_area weight exact_share given_to named_by corners_at fold_threes
not_first_only h = le→leb _ _ (h.near 3 0 (lit< tt) (lit< tt)).within

-- one buffer near the masses of two panels: at each place the exact masses are no further apart than both bounds together
pub near_both : (f : Format) {tri2vtx tri2vtx' : List ℕ} {vtx2xy vtx2xy' : List Float} {thick thick' rho rho' : Float} {masses : List Float}
    → NearExact f tri2vtx vtx2xy thick rho masses → NearExact f tri2vtx' vtx2xy' thick' rho' masses → (v k : ℕ) → v < vertices_of vtx2xy → v < vertices_of vtx2xy' → k < 3
    → let exact = exact_mass f tri2vtx vtx2xy thick rho k v in let exact' = exact_mass f tri2vtx' vtx2xy' thick' rho' k v in
    size_of (exact ⊟ exact') * 2 ^ prec f ≤ (names_of tri2vtx vtx2xy v + roundings k) * size_of exact + (names_of tri2vtx' vtx2xy' v + roundings k) * size_of exact'
near_both f a b v k h h' k3 = within_apart (a.near v k h k3) (b.near v k h' k3)

-- so no buffer, however it came about, is near the masses of both example 3 and example 1: vertex 1 has 24 in the one and 12 in the other
pub no_constant : (masses : List Float) → NearExact binary64 names points thick rho masses → NearExact binary64 first_names points thick rho masses → ⊥
unfolding value sum_of twice_area weight exact_share given_to named_by corners_at fold_threes
no_constant masses a b = le→leb _ _ (near_both binary64 a b 1 0 (lit< tt) (lit< tt) (lit< tt))
