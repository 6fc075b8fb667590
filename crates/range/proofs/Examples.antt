-- The two tests at given numbers, named by their patterns. All by computing.
use mathlib.Core.Path.{◌≡◌, refl}
use mathlib.Core.Bool.{Bool, true, not}
use mathlib.Core.List.{[], ◌∷◌}
use Prim.Native.Nat.{ℕ}
use lib.Ieee.{binary64, fits, of_bits}
use Rattle.float.specs.Lists.{every}
use Rattle.rounding.specs.Exact.{mag, sign}
use Rattle.rounding.specs.Whole.{is_whole_up_to}
use Rattle.rounding.specs.Range.{largest_coordinate, largest_factor, between}

abbrev whole : (w : ℕ) → Bool
whole w = is_whole_up_to binary64 largest_coordinate (of_bits binary64 w)

-- 0, -0, 1, 1048576, -1048576
pub whole_ones : every whole (0 ∷ 0x8000_0000_0000_0000 ∷ 0x3ff0_0000_0000_0000 ∷ 0x4130_0000_0000_0000 ∷ 0xc130_0000_0000_0000 ∷ []) ≡ true
unfolding every is_whole_up_to fits mag of_bits
whole_ones = refl

-- 0.5, -1.5, 1048577, the float after 1048576, the smallest one, a NaN, both infinities
pub others : every (λ w. not (whole w)) (0x3fe0_0000_0000_0000 ∷ 0xbff8_0000_0000_0000 ∷ 0x4130_0001_0000_0000 ∷ 0x4130_0000_0000_0001 ∷ 1 ∷ 0x7ff8_0000_0000_0000 ∷ 0x7ff0_0000_0000_0000
    ∷ 0xfff0_0000_0000_0000 ∷ []) ≡ true
unfolding every is_whole_up_to fits mag of_bits
others = refl

abbrev factor : (w : ℕ) → Bool
factor w = between binary64 largest_factor (of_bits binary64 w)

-- 2^-40, 1, 2^40
pub factors : every factor (0x3d70_0000_0000_0000 ∷ 0x3ff0_0000_0000_0000 ∷ 0x4270_0000_0000_0000 ∷ []) ≡ true
unfolding every between fits mag sign of_bits
factors = refl

-- the floats before 2^-40 and after 2^40, 0, -1, a NaN, both infinities
pub no_factors : every (λ w. not (factor w)) (0x3d6f_ffff_ffff_ffff ∷ 0x4270_0000_0000_0001 ∷ 0 ∷ 0xbff0_0000_0000_0000 ∷ 0x7ff8_0000_0000_0000 ∷ 0x7ff0_0000_0000_0000 ∷ 0xfff0_0000_0000_0000 ∷ [])
    ≡ true
unfolding every between fits mag sign of_bits
no_factors = refl
