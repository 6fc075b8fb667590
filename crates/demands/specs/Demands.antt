-- The three demands on one page: what holds of whatever the routines' statements allow. That no input stops a routine or makes it read outside, and that it meets its statement, is what the check
-- of its function says; the end theorems are here, and `demands` (proofs/Demands.antt) is their proof.
use Rattle.std.specs.Prelude.{◌≡◌, true, false, ◌&&◌, Ok, List, ◌↔◌, ℕ, ◌<◌, ◌≤◌, Float, length, replicate}
use Rattle.std.specs.Float.{nan, binary64}
use Rattle.std.specs.Float.Ieee.{of_bits}
use Rattle.std.specs.Float.Ieee.Scale.{finite}
use Rattle.float.specs.Lists.{cleared, every}
use Rattle.float.specs.Ops.{ops}
use Rattle.refusal.specs.Refusal.{accepted, bad_length, bad_name, bad_input, bad_answer, turned, bad_stiffness, bad_file, kernel_rows, Exactly}
use Rattle.refusal.specs.Answers.{EnergyGiven, taken_of}
use Rattle.refusal.specs.Listed.{ListedExactly}
use Rattle.refusal.specs.declared.Tests.{Tests}
use Rattle.material.specs.Material.{is_finite_of, lame_of, computed, is_bad_of, lame_material, young_material}
use Rattle.material.specs.declared.Material.{Material}
use Rattle.material.specs.declared.Stiffness.TheVariants.{Young}
use Rattle.root.specs.Root.{IsRoot, SquareRoot, SquareRootWord}
use Rattle.corners.specs.Plane as plane
use Rattle.corners.specs.Space as space
use Rattle.del_geo_core.specs.Tri2.{signed_area_of, turns_right}
use Rattle.del_geo_core.specs.declared.tri2.Turn.TheVariants.{Right}
use Rattle.bending.specs.Bending.{wdw_of}
use Rattle.quadratic_bending.specs.Bending.{BendingGiven}
use Rattle.quadratic_bending.specs.Bending as bendings
use Rattle.strain.specs.Strain.{rest_of, rest_of_green_lagrange, values_of}
use Rattle.strain.specs.declared.Values.{Values}
use Rattle.stvk.specs.Stvk.{wdwddw_of}
use Rattle.stvk_tri3.specs.Strain.{StrainGiven}
use Rattle.stvk_tri3.specs.Strain as strains
use Rattle.stvk_tri3.specs.GreenLagrange.{IsGreenLagrange}
use Rattle.stvk_tri3.specs.Stvk as stvks
use Rattle.plate.specs.Plate.{w_dw_ddw_plate_bending_of}
use Rattle.mitc_tri3.specs.Plate as plates
use Rattle.masses.specs.Masses.{masses_of}
use Rattle.mitc_tri3.specs.Masses.{Sound, SomeTurned, rows_of, IsMasses}
use Rattle.skin.specs.Sums.{energy_of, gradient_of, numbers_of}
use Rattle.skin.specs.declared.SkinGiven.{SkinGiven}
use Rattle.skin.specs.Skin.{answer_of, early_of, late_of, IsSkin}
use Rattle.mesh.specs.Mesh.{mesh_of, number_of}
use Rattle.mesh.specs.Writer.{fit_in, Content, Valid, Written, encode}
use Rattle.mesh.specs.declared.Mesh.{Mesh}
use Rattle.mass_bounds.specs.Range.{largest_coordinate, largest_factor, whole_at, in_range}
use Rattle.mass_bounds.specs.Shares.{SomeNegative}
use Rattle.mass_bounds.specs.Bounds as bounds
use Rattle.examples.specs.Table.{Hold, table}
open ops binary64 use {zero}

-- ---- of a kernel whose statement, at some input, is Is
module _ {A B : Type 0} (Is : A → Type 0) (number : A → ℕ) (values : A → B) where
  -- each number is given exactly where its test is the first that holds, and after a refusal every value is +0
  pub record Refuses (tests : Tests) (zeros : B) : Type 0 where
    pub exactly : {r : A} → Is r → Exactly (number r) (kernel_rows tests)
    pub zero_values : {r : A} → Is r → (number r ≡ accepted → ⊥) → values r ≡ zeros

  -- where nothing is refused the values are the numbers that follow the source, and no second answer fits
  pub record Gives (numbers : B) : Type 0 where
    pub bits : {r : A} → Is r → number r ≡ accepted → values r ≡ numbers
    pub only : {r q : A} → Is r → Is q → r ≡ q

-- an answer's values: those of bending and of a strain are two lists, an energy has one number more
abbrev pub Lists : Type 0
Lists = List Float × List Float

abbrev pub NumberAndLists : Type 0
NumberAndLists = Float × List Float × List Float

module _ (Is : BendingGiven → Type 0) where
  abbrev of_bending : BendingGiven → Lists
  of_bending r = (r.w, r.dwdp)

  abbrev pub BendingRefuses : (tests : Tests) → Type 0
  BendingRefuses tests = Refuses Is (λ r. r.number) of_bending tests (replicate 3 zero, replicate 36 zero)

  abbrev pub BendingGives : Lists → Type 0
  BendingGives = Gives Is (λ r. r.number) of_bending

module _ (Is : StrainGiven → Type 0) where
  abbrev of_strain : StrainGiven → Lists
  of_strain r = (r.w, r.dw)

  abbrev pub StrainRefuses : (tests : Tests) → Type 0
  StrainRefuses tests = Refuses Is (λ r. r.number) of_strain tests (replicate 3 zero, replicate 27 zero)

  abbrev pub StrainGives : Values → Type 0
  StrainGives numbers = Gives Is (λ r. r.number) of_strain (numbers.w, numbers.dw)

module _ (Is : EnergyGiven → Type 0) where
  abbrev of_energy : EnergyGiven → NumberAndLists
  of_energy r = (r.w, r.dw, r.ddw)

  abbrev pub EnergyRefuses : (tests : Tests) → Type 0
  EnergyRefuses tests = Refuses Is (λ r. r.number) of_energy tests (zero, replicate 9 zero, replicate 81 zero)

  abbrev pub EnergyGives : NumberAndLists → Type 0
  EnergyGives = Gives Is (λ r. r.number) of_energy

-- ---- demand 1: each refusal exactly where 01-scope 2 lists it, and what it leaves in values and buffers
pub record Demand1 : Type 0 where
  pub bending : (p_ini p_def : List (List Float))
      → BendingRefuses (bendings.IsBending binary64 p_ini p_def) (bendings.tests_of binary64 (bendings.corners_of p_ini) (bendings.corners_of p_def))
  pub strain : (p_ini p_def : List (List Float)) → let ini = plane.corners_of p_ini in
      StrainRefuses (strains.IsStrain binary64 p_ini p_def) (strains.tests_of binary64 ini (space.corners_of p_def) (rest_of binary64 ini))
  pub green_lagrange : (p_ini p_def : List (List Float)) → let ini = plane.corners_of p_ini in
      StrainRefuses (IsGreenLagrange binary64 p_ini p_def) (strains.tests_of binary64 ini (space.corners_of p_def) (rest_of_green_lagrange binary64 ini))
  pub stvk : (p0 p1 : List (List Float)) (m : Material)
      → EnergyRefuses (stvks.IsStvk binary64 p0 p1 m) (stvks.tests_of binary64 (space.corners_of p0) (space.corners_of p1) m.stiffness)
  pub plate : (p u : List (List Float)) (m : Material)
      → EnergyRefuses (plates.IsPlate binary64 p u m) (plates.tests_of binary64 (plane.corners_of p) (space.corners_of u) m.thickness m.stiffness)
  -- the buffer is +0 throughout after 5 and as it was after 1, 2, 3 and 6
  pub masses : (tri2vtx : List ℕ) (vtx2xy : List Float) (m : Material) (before : List Float) {r : ℕ} {after : List Float}
      → IsMasses binary64 tri2vtx vtx2xy m before r after
      → Exactly r (rows_of binary64 tri2vtx vtx2xy m.thickness m.density before) × (r ≡ bad_answer → after ≡ cleared binary64 before)
      × ((r ≡ accepted → ⊥) → (r ≡ bad_answer → ⊥) → after ≡ before)
  -- with the place; the energy is +0 after a refusal, the buffer +0 throughout after 3, 7, 4 and 5 and as it was after 1 and 2; 7 is for the first triangle alone
  pub skin : (vtx2ini vtx2def : List Float) (tri2vtx : List ℕ) (m : Material) (before : List Float) {r : SkinGiven} {after : List Float}
      → IsSkin binary64 vtx2ini vtx2def tri2vtx m before r after → let answer = answer_of binary64 vtx2ini vtx2def m.stiffness in
      ListedExactly r.number r.place (early_of (length vtx2ini) (length vtx2def) tri2vtx (length before)) (numbers_of answer tri2vtx)
      (late_of (energy_of binary64 answer tri2vtx) (gradient_of binary64 answer tri2vtx (length before)))
      × ((r.number ≡ accepted → ⊥) → r.w ≡ zero) × (bad_name < r.number → after ≡ cleared binary64 before) × ((r.number ≡ accepted → ⊥) → r.number ≤ bad_name → after ≡ before)
      × (r.number ≡ bad_stiffness → r.place ≡ 0)
  -- of bytes: 0 with these counts and places exactly where a valid content was written out so, and 8 exactly where none was
  pub mesh_accepts : (f : List ℕ) → fit_in 1 f ≡ true → (mesh : Mesh) → mesh_of f ≡ Ok mesh ↔ Written f mesh
  pub mesh_refuses : (f : List ℕ) → fit_in 1 f ≡ true → number_of (mesh_of f) ≡ bad_file ↔ ((c : Content) → Valid c → f ≡ encode c → ⊥)

-- ---- demand 2: the numbers, bit for bit those of definitions that follow the Rust; roots by IEEE 754's rule
pub record Demand2 : Type 0 where
  -- by the rule of 01-scope 4, which alone has one answer; on words the NaN has its bits too
  pub root : (x : Float) {r : Float} → SquareRoot binary64 x r → IsRoot binary64 x r
  pub one_root : (x r q : Float) → IsRoot binary64 x r → IsRoot binary64 x q → r ≡ q
  pub root_word : (w : ℕ) {r : ℕ} → SquareRootWord binary64 w r → IsRoot binary64 (of_bits binary64 w) (of_bits binary64 r)
  pub nan_word : (w : ℕ) {r : ℕ} → SquareRootWord binary64 w r → IsRoot binary64 (of_bits binary64 w) nan → r ≡ 0x7ff8_0000_0000_0000
  pub bending : (p_ini p_def : List (List Float)) → BendingGives (bendings.IsBending binary64 p_ini p_def) (wdw_of binary64 (bendings.corners_of p_ini) (bendings.corners_of p_def))
  pub strain : (p_ini p_def : List (List Float))
      → StrainGives (strains.IsStrain binary64 p_ini p_def) (values_of binary64 (rest_of binary64 (plane.corners_of p_ini)) (space.corners_of p_def))
  pub green_lagrange : (p_ini p_def : List (List Float))
      → StrainGives (IsGreenLagrange binary64 p_ini p_def) (values_of binary64 (rest_of_green_lagrange binary64 (plane.corners_of p_ini)) (space.corners_of p_def))
  -- on the material's lambda and myu: a Lamé pair as it is, or the pair that is computed of Young's modulus and Poisson's ratio
  pub stvk : (p0 p1 : List (List Float)) (m : Material) → let lame = lame_of binary64 m.stiffness in
      EnergyGives (stvks.IsStvk binary64 p0 p1 m) (wdwddw_of binary64 (space.corners_of p0) (space.corners_of p1) lame.lambda lame.myu)
  pub plate : (p u : List (List Float)) (m : Material) → let lame = lame_of binary64 m.stiffness in
      EnergyGives (plates.IsPlate binary64 p u m) (w_dw_ddw_plate_bending_of binary64 (plane.corners_of p) (space.corners_of u) m.thickness lame.lambda lame.myu)
  pub masses : (tri2vtx : List ℕ) (vtx2xy : List Float) (m : Material) (before : List Float) {r : ℕ} {after : List Float}
      → IsMasses binary64 tri2vtx vtx2xy m before r after → r ≡ accepted → after ≡ masses_of binary64 tri2vtx vtx2xy m.thickness m.density before
  -- what is accepted has no right-turning triangle
  pub unturned_plate : (p u : List (List Float)) (m : Material) {r : EnergyGiven} → plates.IsPlate binary64 p u m r → r.number ≡ accepted
      → let q = plane.corners_of p in (signed_area_of binary64 q.p0 q.p1 q.p2).turn ≡ Right → ⊥
  pub unturned_panel : (tri2vtx : List ℕ) (vtx2xy : List Float) (m : Material) (before : List Float) {r : ℕ} {after : List Float}
      → IsMasses binary64 tri2vtx vtx2xy m before r after → r ≡ accepted → SomeTurned binary64 tri2vtx vtx2xy → ⊥
  pub one_panel : (tri2vtx : List ℕ) (vtx2xy : List Float) (m : Material) (before : List Float) {r q : ℕ} {after left : List Float}
      → IsMasses binary64 tri2vtx vtx2xy m before r after → IsMasses binary64 tri2vtx vtx2xy m before q left → (r ≡ q) × (after ≡ left)
  pub skin : (vtx2ini vtx2def : List Float) (tri2vtx : List ℕ) (m : Material) (before : List Float) {r : SkinGiven} {after : List Float}
      → IsSkin binary64 vtx2ini vtx2def tri2vtx m before r after → r.number ≡ accepted → let answer = answer_of binary64 vtx2ini vtx2def m.stiffness in
      (r.w ≡ energy_of binary64 answer tri2vtx) × (after ≡ gradient_of binary64 answer tri2vtx (length before))
  pub one_skin : (vtx2ini vtx2def : List Float) (tri2vtx : List ℕ) (m : Material) (before : List Float) {r q : SkinGiven} {after left : List Float}
      → IsSkin binary64 vtx2ini vtx2def tri2vtx m before r after → IsSkin binary64 vtx2ini vtx2def tri2vtx m before q left → (r ≡ q) × (after ≡ left)
  -- the marked examples of 01-scope 7
  pub examples : Hold table

-- ---- demand 3: masses near the exact ones (01-scope 6)
pub record Demand3 : Type 0 where
  pub masses : (tri2vtx : List ℕ) (vtx2xy : List Float) (m : Material) (before : List Float) {r : ℕ} {after : List Float}
      → IsMasses binary64 tri2vtx vtx2xy m before r after → let thick = m.thickness in let rho = m.density in
      in_range binary64 largest_coordinate largest_factor tri2vtx vtx2xy thick rho ≡ true → bounds.Demand3 binary64 tri2vtx vtx2xy thick rho before r after

-- ---- request 5/12: what of a material counts (01-scope 5.11), and what Young's modulus with Poisson's ratio is
module _ {A : Type 0} (number : A → ℕ) (Is : Material → A → Type 0) where
  -- where 7 is not given and the computed pair is finite, the answer is that for the pair as Lamé's
  abbrev pub YoungIsLame : Type 0
  YoungIsLame = (density thickness e v : Float) (r : A) → Is (young_material density thickness e v) r → let pair = lame_of binary64 (Young e v) in
      is_finite_of (computed binary64 e v) ≡ true → (number r ≡ bad_stiffness → ⊥) → Is (lame_material density thickness pair.lambda pair.myu) r

-- two materials that agree in what is used have one answer, whatever the rest is, a NaN too
pub record Materials : Type 0 where
  pub stvk_uses : (p0 p1 : List (List Float)) (m n : Material) → m.stiffness ≡ n.stiffness → {r q : EnergyGiven} → stvks.IsStvk binary64 p0 p1 m r → stvks.IsStvk binary64 p0 p1 n q → r ≡ q
  pub plate_uses : (p u : List (List Float)) (m n : Material) → m.thickness ≡ n.thickness → m.stiffness ≡ n.stiffness → {r q : EnergyGiven}
      → plates.IsPlate binary64 p u m r → plates.IsPlate binary64 p u n q → r ≡ q
  pub masses_use : (tri2vtx : List ℕ) (vtx2xy : List Float) (m n : Material) (before : List Float) → m.density ≡ n.density → m.thickness ≡ n.thickness → {r q : ℕ} {after left : List Float}
      → IsMasses binary64 tri2vtx vtx2xy m before r after → IsMasses binary64 tri2vtx vtx2xy n before q left → (r ≡ q) × (after ≡ left)
  pub skin_uses : (vtx2ini vtx2def : List Float) (tri2vtx : List ℕ) (m n : Material) (before : List Float) → m.stiffness ≡ n.stiffness → {r q : SkinGiven} {after left : List Float}
      → IsSkin binary64 vtx2ini vtx2def tri2vtx m before r after → IsSkin binary64 vtx2ini vtx2def tri2vtx n before q left → (r ≡ q) × (after ≡ left)
  pub stvk_young : (p0 p1 : List (List Float)) → YoungIsLame (λ r. r.number) (stvks.IsStvk binary64 p0 p1)
  pub plate_young : (p u : List (List Float)) → YoungIsLame (λ r. r.number) (plates.IsPlate binary64 p u)
  pub skin_young : (vtx2ini vtx2def : List Float) (tri2vtx : List ℕ) (before : List Float)
      → YoungIsLame {A = SkinGiven × List Float} (λ answer. answer.0.number) (λ m answer. IsSkin binary64 vtx2ini vtx2def tri2vtx m before answer.0 answer.1)
  -- and whether the pair is finite or not: once all that is read is taken, the answer is that of the source's numbers on it, with 4 and 5, of a plate with 6 before them, never 3
  pub stvk_taken : (p0 p1 : List (List Float)) (density thickness e v : Float) {r : EnergyGiven} → stvks.IsStvk binary64 p0 p1 (young_material density thickness e v) r
      → let q0 = space.corners_of p0 in let q1 = space.corners_of p1 in
      space.is_finite_of q0 && space.is_finite_of q1 ≡ true → is_finite_of (Young e v) ≡ true → is_bad_of binary64 (Young e v) ≡ false
      → (r ≡ taken_of binary64 false (stvks.divisor_is_zero binary64 q0) (stvks.numbers_of binary64 q0 q1 (lame_of binary64 (Young e v)))) × (r.number ≡ bad_input → ⊥)
  pub plate_taken : (p u : List (List Float)) (density thickness e v : Float) {r : EnergyGiven} → plates.IsPlate binary64 p u (young_material density thickness e v) r
      → let q = plane.corners_of p in let t = space.corners_of u in
      plane.is_finite_of q && space.is_finite_of t && finite thickness ≡ true → is_finite_of (Young e v) ≡ true → is_bad_of binary64 (Young e v) ≡ false
      → (r ≡ taken_of binary64 (turns_right binary64 q) (plates.divisor_is_zero binary64 q thickness) (plates.numbers_of binary64 q t thickness (lame_of binary64 (Young e v)))) × (r.number ≡ bad_input → ⊥)

-- ---- request 6/12: triangles that turn right (01-scope 3.2, 2.1: 6)
pub record Turns : Type 0 where
  -- 6 is given exactly where nothing before it is refused and the area's own field says Right, of the plate's triangle or of some triangle of the panel
  pub plate : (p u : List (List Float)) (m : Material) {r : EnergyGiven} → plates.IsPlate binary64 p u m r
      → let q = plane.corners_of p in let tests = plates.tests_of binary64 q (space.corners_of u) m.thickness m.stiffness in
      r.number ≡ turned ↔ ((tests.bad_input ≡ false) × (tests.bad_stiffness ≡ false) × ((signed_area_of binary64 q.p0 q.p1 q.p2).turn ≡ Right))
  pub masses : (tri2vtx : List ℕ) (vtx2xy : List Float) (m : Material) (before : List Float) {r : ℕ} {after : List Float}
      → IsMasses binary64 tri2vtx vtx2xy m before r after
      → r ≡ turned ↔ (Sound tri2vtx vtx2xy m.thickness m.density before × SomeTurned binary64 tri2vtx vtx2xy)
  -- no rounding hides a turn of whole corners or makes one: where none of 1, 2 and 3 is given, 6 is exactly where some triangle's exact signed area is negative
  pub whole_corners : (tri2vtx : List ℕ) (vtx2xy : List Float) (m : Material) (before : List Float) {r : ℕ} {after : List Float}
      → IsMasses binary64 tri2vtx vtx2xy m before r after → every (whole_at binary64 largest_coordinate vtx2xy) tri2vtx ≡ true
      → (r ≡ bad_length → ⊥) → (r ≡ bad_name → ⊥) → (r ≡ bad_input → ⊥) → r ≡ turned ↔ SomeNegative binary64 tri2vtx vtx2xy

pub record Demands : Type 0 where
  pub demand_1 : Demand1
  pub demand_2 : Demand2
  pub demand_3 : Demand3
  pub materials : Materials
  pub turns : Turns
