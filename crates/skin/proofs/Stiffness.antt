-- What the stiffness is to a skin: it alone counts of the material, and since every triangle finds the same one, 7 is given for the first of them or not at all.
use mathlib.Core.Path.{◌≡◌, refl, sym, ◌∙◌}
use mathlib.Core.Bool.{true, false, true≢false}
use mathlib.Core.List.{List, [], ◌∷◌}
use mathlib.Core.Logic.{◌↔◌, inl, inr}
use Prim.Native.Nat.{ℕ, zero, suc}
use native.Mathlib.Omega.{arith}
use lib.Ieee.{Float, Format}
use lib.ListN.{length, get_or}
use borrow.Author.Tests.{not-false}
use Rattle.float.specs.Lists.{map_threes}
use Rattle.refusal.specs.Refusal.{accepted, bad_stiffness, Row, Clear}
use Rattle.refusal.specs.Answers as answers
use Rattle.refusal.specs.Listed.{ListedCause}
use Rattle.refusal.proofs.KernelNumber.{kernel_exactly, seven_exactly}
use Rattle.material.specs.Material.{is_bad_of, tested_of}
use Rattle.material.specs.declared.Material.{Material}
use Rattle.material.specs.declared.Stiffness.{Stiffness}
use Rattle.stvk_tri3.specs.Stvk.{tests_of, stvk_of}
use Rattle.skin.specs.Sums.{Kernel, numbers_of}
use Rattle.skin.specs.declared.SkinGiven.{SkinGiven}
use Rattle.skin.specs.Skin.{answer_of, IsSkin, FirstBad}
use Rattle.skin.proofs.SkinAnswer.{unique, early, late, numbers_exactly}

-- density and thickness are not looked at: whatever they are, NaNs too, the answer is one
pub looked_at : (f : Format) (vtx2ini vtx2def : List Float) (tri2vtx : List ℕ) (m n : Material) (before : List Float) → m.stiffness ≡ n.stiffness → {r q : SkinGiven} {after left : List Float}
    → IsSkin f vtx2ini vtx2def tri2vtx m before r after → IsSkin f vtx2ini vtx2def tri2vtx n before q left → (r ≡ q) × (after ≡ left)
looked_at f vtx2ini vtx2def tri2vtx m n before e a b = unique f vtx2ini vtx2def tri2vtx m before a (rw e b)

module _ (f : Format) (vtx2ini vtx2def : List Float) (stiffness : Stiffness) where
  abbrev number : (i0 i1 i2 : ℕ) → ℕ
  number i0 i1 i2 = (answer_of f vtx2ini vtx2def stiffness i0 i1 i2).number

  pub seven_bad : (i0 i1 i2 : ℕ) → number i0 i1 i2 ≡ bad_stiffness → is_bad_of f stiffness ≡ true
  unfolding answer_of stvk_of tests_of tested_of answers.energy_of
  seven_bad i0 i1 i2 e = ((seven_exactly _).0 e).1

  pub taken_good : (i0 i1 i2 : ℕ) → number i0 i1 i2 ≡ accepted → is_bad_of f stiffness ≡ false
  unfolding answer_of stvk_of tests_of tested_of answers.energy_of
  taken_good i0 i1 i2 e = ((kernel_exactly _).accepted_exactly.0 e).1.0

  -- a 7 among the triangles' numbers is the first of them
  seven_at : (tri2vtx : List ℕ) (k : ℕ) → let numbers = numbers_of (answer_of f vtx2ini vtx2def stiffness) tri2vtx in get_or numbers k accepted ≡ bad_stiffness
      → (is_bad_of f stiffness ≡ true) × (get_or numbers 0 accepted ≡ accepted → is_bad_of f stiffness ≡ false)
  unfolding map_threes
  seven_at (x ∷ y ∷ z ∷ l) zero e = (seven_bad x y z e, taken_good x y z)
  seven_at (x ∷ y ∷ z ∷ l) (suc k) e = ((seven_at l k e).0, taken_good x y z)
  seven_at (x ∷ y ∷ []) k e = absurd (omega (arith, e))
  seven_at (x ∷ []) k e = absurd (omega (arith, e))
  seven_at [] k e = absurd (omega (arith, e))

first_seven : (f : Format) (vtx2ini vtx2def : List Float) (stiffness : Stiffness) (tri2vtx : List ℕ)
    → get_or (numbers_of (answer_of f vtx2ini vtx2def stiffness) tri2vtx) 0 accepted ≡ bad_stiffness ↔ FirstBad f vtx2ini vtx2def stiffness tri2vtx
unfolding map_threes answer_of stvk_of tests_of tested_of answers.energy_of
first_seven f vtx2ini vtx2def stiffness (x ∷ y ∷ z ∷ l) =
    ((λ e. let h = (seven_exactly _).0 e in (omega arith, not-false _ h.0, h.1)), λ h. (seven_exactly _).1 (rw h.1, h.2))
first_seven f vtx2ini vtx2def stiffness (x ∷ y ∷ []) = ((λ e. absurd (omega (arith, e))), λ h. absurd (omega (arith, h.0)))
first_seven f vtx2ini vtx2def stiffness (x ∷ []) = ((λ e. absurd (omega (arith, e))), λ h. absurd (omega (arith, h.0)))
first_seven f vtx2ini vtx2def stiffness [] = ((λ e. absurd (omega (arith, e))), λ h. absurd (omega (arith, h.0)))

module _ (f : Format) (vtx2ini vtx2def : List Float) (tri2vtx : List ℕ) (m : Material) (before : List Float) {r : SkinGiven} {after : List Float} (is : IsSkin f vtx2ini vtx2def tri2vtx m before r after) where
  abbrev answer : Kernel
  answer = answer_of f vtx2ini vtx2def m.stiffness

  abbrev numbers : List ℕ
  numbers = numbers_of answer tri2vtx

  abbrev lengths : List Row
  lengths = early f answer (length vtx2ini) (length vtx2def) tri2vtx before

  seven : r.number ≡ bad_stiffness → (r.place ≡ 0) × (Clear lengths × (get_or numbers 0 accepted ≡ bad_stiffness))
  seven e = at r.place (((numbers_exactly f answer _ _ tri2vtx before is).refused_exactly bad_stiffness r.place (λ (z : bad_stiffness ≡ accepted). omega arith)).0 (e, refl))
    where
      at : (k : ℕ) → ListedCause bad_stiffness k lengths numbers (late f answer (length vtx2ini) (length vtx2def) tri2vtx before)
          → (k ≡ 0) × (Clear lengths × (get_or numbers 0 accepted ≡ bad_stiffness))
      at k (inl (inl (_, z), _)) = absurd (omega (arith, z))
      at k (inl (inr (_, inl (_, z)), _)) = absurd (omega (arith, z))
      at k (inl (inr (_, inr (_, n)), _)) = absurd n
      at zero (inr (clear, inl (here, _))) = (refl, (clear, here))
      at (suc k) (inr (_, inl (here, passed))) =
          let bad = seven_at f vtx2ini vtx2def m.stiffness tri2vtx (suc k) here in
          absurd (true≢false (sym bad.0 ∙ bad.1 (passed 0 (omega arith))))
      at k (inr (_, inr (_, inl (_, z), _))) = absurd (omega (arith, z))
      at k (inr (_, inr (_, inr (_, n), _))) = absurd n

  -- THE theorems of 7: it is the first triangle's, and given exactly where lengths and names are right and that triangle finds the stiffness bad
  pub seven_first : r.number ≡ bad_stiffness → r.place ≡ 0
  seven_first e = (seven e).0

  pub refused_7_exactly : r.number ≡ bad_stiffness ↔ (Clear lengths × FirstBad f vtx2ini vtx2def m.stiffness tri2vtx)
  refused_7_exactly = ((λ e. let s = seven e in (s.1.0, (first_seven f vtx2ini vtx2def m.stiffness tri2vtx).0 s.1.1)), back)
    where
      back : Clear lengths × FirstBad f vtx2ini vtx2def m.stiffness tri2vtx → r.number ≡ bad_stiffness
      back (clear, bad) =
          let first = (first_seven f vtx2ini vtx2def m.stiffness tri2vtx).1 bad in
          (((numbers_exactly f answer _ _ tri2vtx before is).refused_exactly bad_stiffness 0 (λ (z : bad_stiffness ≡ accepted). omega arith)).1 (inr (clear, inl (first, λ j h. absurd (omega (arith, h)))))).0
