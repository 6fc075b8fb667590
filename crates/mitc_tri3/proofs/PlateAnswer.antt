-- What `w_dw_ddw_plate_bending` answers, in the scope's words: one answer fits; what every kernel that answers an energy says; of the material the density does not count; and Young's modulus with
-- Poisson's ratio is the Lamé pair that is computed of them.
use mathlib.Core.Path.{◌≡◌, sym, ◌∙◌}
use mathlib.Core.Bool.{true, false, true≢false, ◌&&◌}
use mathlib.Core.List.{List}
use mathlib.Core.Logic.{◌↔◌}
use lib.Ieee.{Float, Format}
use lib.Ieee.Scale.{finite}
use lib.ListN.{replicate}
use Rattle.std.specs.Prelude.{Result}
use Rattle.float.specs.Ops.{ops}
use Rattle.float.proofs.Unique.{only}
use Rattle.refusal.specs.Refusal.{accepted, turned, bad_stiffness, kernel_rows, Exactly}
use Rattle.refusal.specs.declared.Energy.{Energy}
use Rattle.refusal.specs.declared.Refusal.{Refusal}
use Rattle.refusal.specs.Answers.{EnergyGiven, energy_given, energy_of, taken_of}
use Rattle.refusal.specs.declared.Tests.{Tests}
use Rattle.refusal.proofs.EnergyAnswer as energy
use Rattle.refusal.proofs.EnergyGiven.{given_once}
use Rattle.refusal.proofs.KernelNumber.{six_exactly}
use Rattle.material.specs.Material.{is_finite_of, lame_of, computed, is_bad_of, tested_of, lame_material, young_material}
use Rattle.material.specs.declared.LamePair.{LamePair}
use Rattle.material.specs.declared.Material.{Material}
use Rattle.material.specs.declared.Stiffness.TheVariants.{Young}
use Rattle.material.proofs.Young as young
use Rattle.del_geo_core.specs.Tri2.{signed_area_of, turns_right}
use Rattle.del_geo_core.specs.declared.tri2.Turn.TheVariants.{Right}
use Rattle.del_geo_core.proofs.Turn.{is_right_exactly}
use Rattle.corners.specs.Plane as plane
use Rattle.corners.specs.Space as space
use Rattle.mitc_tri3.specs.Plate.{numbers_of, divisor_is_zero, tests_of, plate_of, IsPlate}

module _ (f : Format) (p u : List (List Float)) where
  open ops f use {zero}

  module _ (m : Material) where
    -- no second answer fits
    pub unique : {r q : EnergyGiven} → IsPlate f p u m r → IsPlate f p u m q → r ≡ q
    unique = only

    -- nor does a second result of `w_dw_ddw_plate_bending`
    pub unique_result : {r q : Result Energy Refusal} → IsPlate f p u m (energy_given f r) → IsPlate f p u m (energy_given f q) → r ≡ q
    unique_result a b = given_once f _ _ (only a b)

    abbrev tests : Tests
    tests = tests_of f (plane.corners_of p) (space.corners_of u) m.thickness m.stiffness

    module _ {r : EnergyGiven} (is : IsPlate f p u m r) where
      pub numbers_exactly : Exactly r.number (kernel_rows tests)
      unfolding plate_of
      numbers_exactly = energy.numbers_exactly f tests _ _ _ is

      -- 6 exactly where nothing before it is refused and the triangle's area says that it turns right
      pub refused_6_exactly : let q = plane.corners_of p in
          r.number ≡ turned ↔ ((tests.bad_input ≡ false) × (tests.bad_stiffness ≡ false) × ((signed_area_of f q.p0 q.p1 q.p2).turn ≡ Right))
      unfolding plate_of tests_of tested_of energy_of
      refused_6_exactly =
          let (there, back) = six_exactly tests in
          let (is_right, right) = is_right_exactly (signed_area_of f (plane.corners_of p).p0 (plane.corners_of p).p1 (plane.corners_of p).p2).turn in
          ((λ e. let (i, (s, t)) = there (rw is at e) in (i, s, is_right t)), λ (i, s, t). rw is (back (i, (s, right t))))

      -- and an accepted triangle's does not
      pub accepted_unturned : r.number ≡ accepted → let q = plane.corners_of p in (signed_area_of f q.p0 q.p1 q.p2).turn ≡ Right → ⊥
      unfolding tests_of tested_of
      accepted_unturned e h = true≢false (sym ((is_right_exactly _).1 h) ∙ (numbers_exactly.accepted_exactly.0 e).1.1.0)

      -- after a refusal every value is +0
      pub refused_values : (r.number ≡ accepted → ⊥) → (r.w ≡ zero) × (r.dw ≡ replicate 9 zero) × (r.ddw ≡ replicate 81 zero)
      unfolding plate_of
      refused_values = energy.refused_values f tests _ _ _ is

      -- and where nothing is refused they are what the source returns
      pub accepted_values : r.number ≡ accepted → let (w, dw, ddw) = numbers_of f (plane.corners_of p) (space.corners_of u) m.thickness (lame_of f m.stiffness) in (r.w ≡ w) × (r.dw ≡ dw) × (r.ddw ≡ ddw)
      unfolding plate_of
      accepted_values = energy.accepted_values f tests _ _ _ is

  -- the density is not looked at: whatever it is, a NaN too, the answer is one
  pub looked_at : (m n : Material) → m.thickness ≡ n.thickness → m.stiffness ≡ n.stiffness → {r q : EnergyGiven} → IsPlate f p u m r → IsPlate f p u n q → r ≡ q
  looked_at m n t e a b = only a (rw (t, e) b)

  module _ (density thickness e v : Float) {r : EnergyGiven} (is : IsPlate f p u (young_material density thickness e v) r) where
    abbrev numbers : LamePair → Float × List Float × List Float
    numbers = numbers_of f (plane.corners_of p) (space.corners_of u) thickness

    abbrev pair : LamePair
    pair = lame_of f (Young e v)

    -- THE theorem of Young's modulus and Poisson's ratio: where 7 is not given and the computed pair is finite, the answer is that for the pair
    pub young_is_lame : is_finite_of (computed f e v) ≡ true → (r.number ≡ bad_stiffness → ⊥) → IsPlate f p u (lame_material density thickness pair.lambda pair.myu) r
    unfolding tests_of plate_of
    young_is_lame h other = is ∙ young.young_lame f e v _ _ _ numbers h (rw is at other)

    -- finite or not: once E and v are taken, 6, 4 and 5 are left, never 3 (`taken_never_3`), by the source's numbers on the pair
    pub young_taken : plane.is_finite_of (plane.corners_of p) && space.is_finite_of (space.corners_of u) && finite thickness ≡ true → is_finite_of (Young e v) ≡ true → is_bad_of f (Young e v) ≡ false
        → r ≡ taken_of f (turns_right f (plane.corners_of p)) (divisor_is_zero f (plane.corners_of p) thickness) (numbers pair)
    unfolding tests_of plate_of
    young_taken c h b = is ∙ young.young_taken f e v _ _ _ numbers c h b
