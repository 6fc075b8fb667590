-- What `wdw` answers (01-scope 5.8, 2.5): the sums of a kernel's answers, or the first thing in order that is refused, and where. First for any kernel; `wdw` asks StVK.
use Rattle.std.specs.Prelude.{◌≡◌, Bool, true, cond, not, ◌&&◌, ◌||◌, List, [], ◌∷◌, ℕ, ◌/◌, ◌<◌, eqb, leb, Float, length, get_or, Result, Ok, Err}
use Rattle.std.specs.Float.{Format}
use Rattle.std.specs.Float.Ieee.Scale.{finite}
use Rattle.float.specs.Lists.{all_finite}
use Rattle.float.specs.Ops.{ops}
use Rattle.refusal.specs.Refusal.{accepted, bad_length, bad_name, bad_answer, Row, ◌⇒◌}
use Rattle.refusal.specs.Panel as panel
use Rattle.refusal.specs.Panel.{names_below}
use Rattle.refusal.specs.Listed.{listed_number, listed_place}
use Rattle.refusal.specs.Left.{left_of}
use Rattle.material.specs.Material.{is_finite_of, is_bad_of}
use Rattle.material.specs.declared.Material.{Material}
use Rattle.material.specs.declared.Stiffness.{Stiffness}
use Rattle.corners.specs.Space.{is_finite_of as corners_finite}
use Rattle.places.specs.Space.{corners_at}
use Rattle.stvk_tri3.specs.Stvk.{stvk_of}
use Rattle.skin.specs.Sums.{Kernel, numbers_of, energy_of, gradient_of}
use Rattle.refusal.specs.Numbers.{refusal_number}
use Rattle.skin.specs.declared.SkinGiven.{SkinGiven}
use Rattle.skin.specs.declared.Refused.{Refused}

-- THE statement of `given`: for an answer the energy with 0 and no place; after a refusal its number and its place, and +0
abbrev pub skin_given : (f : Format) → Result Float Refused → SkinGiven
skin_given f (Ok w) = record { number = accepted; place = 0; w = w }
skin_given f (Err refused) = record { number = refusal_number refused.refusal; place = refused.place; w = (ops f).zero }

-- from the lengths of the lists: a limit is passed; or points at rest, deformed points and gradient differ in length; or 3 does not divide it
unfoldable pub bad_length_of : (ini def names places : ℕ) → Bool
bad_length_of ini def names places = panel.bad_length_of (ini / 3) names places || not (eqb ini places) || not (eqb def places)

-- a sum overflowed
unfoldable pub bad_sum_of : (w : Float) (vtx2dw : List Float) → Bool
bad_sum_of w vtx2dw = not (finite w && all_finite vtx2dw)

-- what is tested before the triangles are asked, and after
abbrev pub early_of : (ini def : ℕ) (tri2vtx : List ℕ) (places : ℕ) → List Row
early_of ini def tri2vtx places = bad_length_of ini def (length tri2vtx) places ⇒ bad_length ∷ not (names_below (ini / 3) tri2vtx) ⇒ bad_name ∷ []

abbrev pub late_of : (w : Float) (vtx2dw : List Float) → List Row
late_of w vtx2dw = bad_sum_of w vtx2dw ⇒ bad_answer ∷ []

-- the numbers that leave the buffer as it was: 1 and 2
abbrev pub keeps : (number : ℕ) → Bool
keeps number = leb number bad_name

module _ (f : Format) (answer : Kernel) (ini def : ℕ) (tri2vtx : List ℕ) where
  open ops f use {zero}

  -- the energy is +0 after every refusal
  unfoldable pub skin_of : (places : ℕ) → SkinGiven
  skin_of places =
      let early = early_of ini def tri2vtx places in
      let numbers = numbers_of answer tri2vtx in
      let late = late_of (energy_of f answer tri2vtx) (gradient_of f answer tri2vtx places) in
      let number = listed_number early numbers late in
      record { number = number; place = listed_place early numbers late; w = cond (eqb number accepted) (energy_of f answer tri2vtx) zero }

  -- THE statement of such a call: the buffer was `before` and is `after`
  abbrev pub IsSkinOver : (before : List Float) (r : SkinGiven) (after : List Float) → Type 0
  IsSkinOver before r after = (r ≡ skin_of (length before)) × (after ≡ left_of f keeps r.number (gradient_of f answer tri2vtx (length before)) before)

module _ (f : Format) where
  -- the single kernel's answer for the triangle of three names
  unfoldable pub answer_of : (vtx2ini vtx2def : List Float) (stiffness : Stiffness) → Kernel
  answer_of vtx2ini vtx2def stiffness i0 i1 i2 = stvk_of f (corners_at vtx2ini i0 i1 i2) (corners_at vtx2def i0 i1 i2) stiffness

  -- THE statement of `wdw`: of the material the stiffness alone enters
  abbrev pub IsSkin : (vtx2ini vtx2def : List Float) (tri2vtx : List ℕ) (material : Material) (before : List Float) (r : SkinGiven) (after : List Float) → Type 0
  IsSkin vtx2ini vtx2def tri2vtx material before r after =
      IsSkinOver f (answer_of vtx2ini vtx2def material.stiffness) (length vtx2ini) (length vtx2def) tri2vtx before r after

  -- why 7 is given: there is a first triangle; its corners and the stiffness's numbers are finite, and the stiffness is none that a sheet can have
  abbrev pub FirstBad : (vtx2ini vtx2def : List Float) (stiffness : Stiffness) (tri2vtx : List ℕ) → Type 0
  FirstBad vtx2ini vtx2def stiffness tri2vtx =
      let i0 = get_or tri2vtx 0 0 in
      let i1 = get_or tri2vtx 1 0 in
      let i2 = get_or tri2vtx 2 0 in
      (2 < length tri2vtx) × (corners_finite (corners_at vtx2ini i0 i1 i2) && corners_finite (corners_at vtx2def i0 i1 i2) && is_finite_of stiffness ≡ true) × (is_bad_of f stiffness ≡ true)
