-- 6.2's bounds are not idle: on one panel each mass is more than (d + 1) / 2 ^ 53 off, and within d + 3 and d + 6, by computing.
use mathlib.Core.Path.{◌≡◌, refl}
use mathlib.Core.Bool.{true}
use mathlib.Core.List.{List}
use mathlib.Core.Logic.{inl, inr}
use Prim.Native.Nat.{ℕ, ◌+◌, ◌^◌}
use lib.Dec.{lit≤, le→leb, lt→ltb}
use lib.Ieee.{Float, binary64, fits, sub, mul, div, of_bits}
use Rattle.float.specs.Lists.{◌!◌, every, fold_threes, map_threes}
use Rattle.refusal.specs.Panel.{within_limits, bad_length_of}
use Rattle.places.specs.Plane.{corners_at, triangles}
use Rattle.places.specs.Places.{add_vertex, add_triangle}
use Rattle.places.specs.Vertex.{named_by, given_to}
use Rattle.rounding.specs.Exact.{size_of, mag, sign, value}
use Rattle.rounding.specs.Error.{Within}
use Rattle.rounding.specs.Sums.{sum_of}
use Rattle.rounding.specs.Whole.{is_whole_up_to}
use Rattle.masses.specs.Masses.{mass_of, add_masses, add_all, masses_of}
use Rattle.mass_bounds.specs.Range.{largest_coordinate, largest_factor, between, in_range}
use Rattle.mass_bounds.specs.Shares.{names_of, twice_area, weight, exact_share, over, exact_mass, SomeNegative}
use Rattle.mass_bounds.specs.Bounds.{roundings, Proper}
use Rattle.mass_bounds.specs.Example.{first_names, sharp_points, sharp_rho, sharp_thick, sharp_before}

abbrev stored : List Float
stored = masses_of binary64 first_names sharp_points sharp_thick sharp_rho sharp_before

-- of vertex 0, with c for the 3 or the 6
abbrev OffBy : (k c : ℕ) → Type 0
OffBy k c =
    let exact = exact_mass binary64 first_names sharp_points sharp_thick sharp_rho k 0 in
    Within (2 ^ 53) (names_of first_names sharp_points 0 + c) (over binary64 k) (value binary64 (stored ! k)) exact (size_of exact)

pub meets : in_range binary64 largest_coordinate largest_factor first_names sharp_points sharp_thick sharp_rho ≡ true
unfolding in_range between is_whole_up_to every fits mag sign of_bits
meets = refl

pub proper : Proper binary64 first_names sharp_points sharp_before
unfolding bad_length_of within_limits every value twice_area triangles map_threes corners_at
proper = record { lengths = refl; names = refl; turns = turns }
  where
    turns : SomeNegative binary64 first_names sharp_points → ⊥
    turns (inl h) = lt→ltb _ _ h
    turns (inr n) = n

pub held : OffBy 0 (roundings 0) × OffBy 1 (roundings 1)
unfolding value sum_of twice_area weight exact_share given_to named_by corners_at fold_threes sub mul div of_bits mass_of add_masses add_all masses_of add_vertex add_triangle
held = (record { within = lit≤ tt }, record { within = lit≤ tt })

-- the translation is 2.32 / 2 ^ 53 off, the rotations 2.50, where d + 1 is 2
pub sharp : (OffBy 0 1 → ⊥) × (OffBy 1 1 → ⊥)
unfolding value sum_of twice_area weight exact_share given_to named_by corners_at fold_threes sub mul div of_bits mass_of add_masses add_all masses_of add_vertex add_triangle
sharp = (λ h. le→leb _ _ h.within, λ h. le→leb _ _ h.within)
