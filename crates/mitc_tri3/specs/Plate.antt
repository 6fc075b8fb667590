-- What `w_dw_ddw_plate_bending` answers (01-scope 5.2): the number by the ladder, and the numbers of crate `plate` where nothing is refused, on the material's thickness, lambda and myu (5.11).
use Rattle.std.specs.Prelude.{◌≡◌, Bool, ◌&&◌, List, Float}
use Rattle.std.specs.Float.{Format}
use Rattle.std.specs.Float.Ieee.Scale.{finite}
use Rattle.refusal.specs.Refusal.{kernel_number}
use Rattle.refusal.specs.Answers.{EnergyGiven, zero_divisor_of, bad_energy_of, energy_of}
use Rattle.refusal.specs.declared.Tests.{Tests}
use Rattle.material.specs.Material.{lame_of, tested_of}
use Rattle.material.specs.declared.LamePair.{LamePair}
use Rattle.material.specs.declared.Material.{Material}
use Rattle.material.specs.declared.Stiffness.{Stiffness}
use Rattle.corners.specs.Plane as plane
use Rattle.corners.specs.Space as space
use Rattle.del_geo_core.specs.Tri2.{turns_right}
use Rattle.del_geo_core.specs.Tri2.{Tri2}
use Rattle.del_geo_core.specs.Tri3.{Tri3}
use Rattle.plate.specs.Plate.{gu_of, w_dw_ddw_plate_bending_of}

-- one of the divisors is zero: the three dots of the inverse
abbrev pub divisor_is_zero : (f : Format) (p : Tri2) (thickness : Float) → Bool
divisor_is_zero f p thickness = let gu = gu_of f p thickness in zero_divisor_of gu.x.by gu.y.by gu.z.by

module _ (f : Format) (p : Tri2) (u : Tri3) (thickness : Float) where
  -- the source's numbers on lambda and myu: energy, gradient and Hessian
  abbrev pub numbers_of : LamePair → Float × List Float × List Float
  numbers_of pair = w_dw_ddw_plate_bending_of f p u thickness pair.lambda pair.myu

  module _ (stiffness : Stiffness) where
    -- what is refused (01-scope 2.1)
    unfoldable pub tests_of : Tests
    tests_of =
        let (w, dw, ddw) = numbers_of (lame_of f stiffness) in
        tested_of f stiffness (plane.is_finite_of p && space.is_finite_of u && finite thickness) (turns_right f p) (divisor_is_zero f p thickness) (bad_energy_of w dw ddw)

    unfoldable pub plate_of : EnergyGiven
    plate_of = let (w, dw, ddw) = numbers_of (lame_of f stiffness) in energy_of f (kernel_number tests_of) w dw ddw

-- THE statement of `w_dw_ddw_plate_bending`: of the material the thickness and the stiffness enter
abbrev pub IsPlate : (f : Format) (p u : List (List Float)) (material : Material) (r : EnergyGiven) → Type 0
IsPlate f p u material r = r ≡ plate_of f (plane.corners_of p) (space.corners_of u) material.thickness material.stiffness
