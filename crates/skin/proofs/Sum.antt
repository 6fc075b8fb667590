-- The triangles up to the first that is refused, whatever the kernel is: what is left from one on, added to what there is, gives what all of them give. And what is answered and left at
-- each return: a cause settles number and place, and they settle the rest.
use mathlib.Core.Path.{◌≡◌, refl, sym, ◌∙◌}
use mathlib.Core.Bool.{true, false, not}
use mathlib.Core.List.{List}
use mathlib.Core.Logic.{◌⊎◌, inl, inr}
use Prim.Native.Nat.{ℕ, ◌+◌, ◌*◌, ◌/◌, ◌%◌, ◌≤◌, ◌<◌}
use native.Mathlib.Omega.{arith}
use lib.Ieee.{Float, Format}
use lib.ListN.{length, get_or, drop}
use borrow.Author.Tests.{ne_eqb, lt-leb, not-false}
use Rattle.float.specs.Lists.{cleared, every, fold_threes}
use Rattle.float.specs.Ops.{ops}
use Rattle.float.proofs.Fold.{threes_done, threes_step}
use Rattle.refusal.specs.Refusal.{accepted, bad_length, bad_name, bad_answer, Row, first_of, Cause, Clear}
use Rattle.refusal.specs.Panel.{names_below}
use Rattle.refusal.specs.Listed.{first_refusal, listed_number, listed_place, NoneRefused, FirstAt}
use Rattle.refusal.specs.Left.{left_of}
use Rattle.refusal.specs.Answers.{EnergyGiven}
use Rattle.refusal.proofs.Ladder.{clear_exactly, first_above}
use Rattle.refusal.proofs.Listed.{Passed, all_passed, threes_here, threes_passed, threes_above}
use Rattle.refusal.proofs.ListedNumber.{later_above}
use Rattle.refusal.proofs.Panel.{Three, at_three}
use Rattle.places.specs.Places.{added_of}
use Rattle.places.specs.Space.{point_at}
use Rattle.places.proofs.Places.{added, triangle_length}
use Rattle.skin.specs.Sums.{Kernel, numbers_of, add_energy, add_gradient, energy_of, gradient_of}
use Rattle.skin.specs.declared.SkinGiven.{SkinGiven}
use Rattle.skin.specs.Skin.{bad_length_of, bad_sum_of, early_of, late_of, skin_of, IsSkinOver}
use Rattle.skin.specs.Parts.{refused_of}
use Rattle.skin.proofs.SkinAnswer.{Above, count, numbers_exactly, sized}

module _ (f : Format) (answer : Kernel) (tri2vtx : List ℕ) (from : List Float) where
  -- the triangles from k on are left; none before is refused, and added to `from` they gave w and vtx2dw
  pub record Left (k : ℕ) (w : Float) (vtx2dw : List Float) : Type 0 where
    pub threes : length tri2vtx % 3 ≡ 0
    pub within : k ≤ length tri2vtx / 3
    pub size : length vtx2dw ≡ length from
    pub passed : Passed (numbers_of answer tri2vtx) k
    pub energy : fold_threes (add_energy f answer) w (drop (k * 3) tri2vtx) ≡ energy_of f answer tri2vtx
    pub gradient : fold_threes (add_gradient f answer) vtx2dw (drop (k * 3) tri2vtx) ≡ fold_threes (add_gradient f answer) from tri2vtx

  pub start : length tri2vtx % 3 ≡ 0 → Left 0 (ops f).zero from
  unfolding energy_of
  start threes = record { threes = threes; within = omega arith; size = refl; passed = λ j h. absurd (omega arith); energy = refl; gradient = refl }

-- lengths and names are right, and k is a triangle
module _ (ini def : ℕ) (tri2vtx : List ℕ) (places : ℕ) (clear : Clear (early_of ini def tri2vtx places)) (k : ℕ) (less : k < length tri2vtx / 3) where
  three : Three (ini / 3) tri2vtx (k * 3)
  three = at_three (ini / 3) tri2vtx (sized ini def _ _ clear.0).0 (not-false _ clear.1.0) (k * 3) (omega arith) (omega arith)

  pub asked : (def ≡ ini) × ((get_or tri2vtx (k * 3) 0 * 3 + 2 < ini) × ((get_or tri2vtx (k * 3 + 1) 0 * 3 + 2 < ini) × (get_or tri2vtx (k * 3 + 2) 0 * 3 + 2 < ini)))
  asked = let known = sized ini def _ _ clear.0 in (omega arith, (omega (arith, three), (omega (arith, three), omega (arith, three))))

module _ (f : Format) (answer : Kernel) (ini def : ℕ) (tri2vtx : List ℕ) (before : List Float) where
  open ops f use {◌⊕◌}

  infixl 75 ◌⊕◌
  abbrev Answer : SkinGiven → List Float → Type 0
  Answer r after = IsSkinOver f answer ini def tri2vtx before r after

  abbrev early : List Row
  early = early_of ini def tri2vtx (length before)

  abbrev numbers : List ℕ
  numbers = numbers_of answer tri2vtx

  abbrev late : List Row
  late = late_of (energy_of f answer tri2vtx) (gradient_of f answer tri2vtx (length before))

  abbrev name : ℕ → ℕ
  name k = get_or tri2vtx k 0

  pub refused_1 : bad_length_of ini def (length tri2vtx) (length before) ≡ true → Answer (refused_of f bad_length 0) before
  unfolding skin_of listed_number listed_place first_refusal first_of left_of
  refused_1 e = rw e (refl, refl)

  pub refused_2 : bad_length_of ini def (length tri2vtx) (length before) ≡ false → not (names_below (ini / 3) tri2vtx) ≡ true → Answer (refused_of f bad_name 0) before
  unfolding skin_of listed_number listed_place first_refusal first_of left_of
  refused_2 e1 e2 = rw (e1, e2) (refl, refl)

  module _ (clear : Clear early) where
    -- what was added is cleared away
    module _ (above : Above answer) (m : List Float) {after : List Float} (size : length m ≡ length before) (d : after ≡ cleared f m) where
      later : (n k : ℕ) → (n ≡ accepted → ⊥) → FirstAt numbers k n ⊎ (NoneRefused numbers × Cause n late × (k ≡ length numbers)) → Answer (refused_of f n k) after
      unfolding skin_of every left_of
      later n k some cause =
          let e = ((numbers_exactly f answer ini def tri2vtx before (refl, refl)).refused_exactly n k some).1 (inr (clear, cause)) in
          let answers = threes_above _ bad_name above tri2vtx in
          let h = later_above early numbers late bad_name ((clear_exactly early refl).1 clear) answers (first_above bad_name late refl) (λ z. some (sym e.0 ∙ z)) in
          rw (e.0, e.1, ne_eqb n accepted some, lt-leb n bad_name (rw e.0 at h)) (refl, d ∙ rw size)

      pub refused_here : (k : ℕ) → k < length tri2vtx / 3 → {e : EnergyGiven} → e ≡ answer (name (k * 3)) (name (k * 3 + 1)) (name (k * 3 + 2)) → (e.number ≡ accepted → ⊥)
          → Passed numbers k → Answer (refused_of f e.number k) after
      refused_here k less is z passed =
          let at : k * 3 / 3 ≡ k = omega arith in
          later _ k z (inl (rw is (rw at at (threes_here (λ i0 i1 i2. (answer i0 i1 i2).number) tri2vtx (k * 3) 0 (omega arith) (omega arith))), passed))

    module _ {from : List Float} {k : ℕ} {w : Float} {vtx2dw : List Float} (left : Left f answer tri2vtx from k w vtx2dw) (size : length vtx2dw ≡ length before) where
      pub next : k < length tri2vtx / 3 → {e : EnergyGiven} → e ≡ answer (name (k * 3)) (name (k * 3 + 1)) (name (k * 3 + 2)) → e.number ≡ accepted → {after : List Float}
          → after ≡ added_of f vtx2dw (name (k * 3)) (name (k * 3 + 1)) (name (k * 3 + 2)) (point_at e.dw 0) (point_at e.dw 1) (point_at e.dw 2)
          → Left f answer tri2vtx from (k + 1) (w ⊕ e.w) after
      unfolding add_energy add_gradient
      next less is z d =
          let t = three ini def tri2vtx _ clear k less in
          let step : (k + 1) * 3 ≡ k * 3 + 3 = omega arith in
          let at : k * 3 / 3 ≡ k = omega arith in
          let on : (k * 3 + 3) / 3 ≡ k + 1 = omega arith in
          rw (d, added f vtx2dw _ _ _ _ _ _ (ini / 3) (size ∙ (sized ini def _ _ clear.0).1) t.first t.second t.third, is) record {
            threes = left.threes;
            within = omega arith;
            size = triangle_length f vtx2dw _ _ _ _ _ _ ∙ left.size;
            passed = rw on at (threes_passed (λ i0 i1 i2. (answer i0 i1 i2).number) tri2vtx (k * 3) 0 (omega arith) t.inside (rw (← at) at left.passed) (rw is at z));
            energy = rw step (threes_step (add_energy f answer) tri2vtx (k * 3) 0 w t.inside ∙ left.energy);
            gradient = rw step (threes_step (add_gradient f answer) tri2vtx (k * 3) 0 vtx2dw t.inside ∙ left.gradient);
          }

      -- none is left
      module _ (past : length tri2vtx / 3 ≤ k) (c : from ≡ cleared f before) where
        all : k ≡ length numbers
        all = omega (arith, left.within, count answer tri2vtx)

        none : NoneRefused numbers
        none = all_passed numbers (rw all at left.passed)

        sums : (w ≡ energy_of f answer tri2vtx) × (vtx2dw ≡ gradient_of f answer tri2vtx (length before))
        unfolding gradient_of
        sums = (sym (threes_done _ tri2vtx (k * 3) w (omega (arith, left.threes))) ∙ left.energy, sym (threes_done _ tri2vtx (k * 3) vtx2dw (omega (arith, left.threes))) ∙ left.gradient ∙ rw c)

        pub sum_refused : Above answer → bad_sum_of w vtx2dw ≡ true → {after : List Float} → after ≡ cleared f vtx2dw → Answer (refused_of f bad_answer k) after
        sum_refused above bad d = later above vtx2dw size d bad_answer k (λ (e : bad_answer ≡ accepted). omega arith) (inr (none, inl (rw (sums.0, sums.1) at bad, refl), all))

        pub all_accepted : bad_sum_of w vtx2dw ≡ false → Answer (record { number = accepted; place = 0; w = w }) vtx2dw
        unfolding skin_of left_of
        all_accepted good =
            let exactly = numbers_exactly f answer ini def tri2vtx before (refl, refl) in
            let is = exactly.accepted_exactly.1 (clear, none, (rw (sums.0, sums.1) at good, tt)) in
            rw (is, exactly.no_place is) (rw sums.0 refl, sums.1)
