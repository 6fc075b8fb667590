-- What `wdw` answers, in the scope's words: one answer fits, each number is given exactly where its test is the first that holds, and the values are the source's or +0.
use mathlib.Core.Path.{◌≡◌}
use mathlib.Core.List.{List}
use lib.Ieee.{Float, Format}
use lib.ListN.{replicate}
use borrow.Author.Tests.{ne_eqb}
use Rattle.std.specs.Prelude.{Result}
use Rattle.float.specs.Ops.{ops}
use Rattle.float.proofs.Unique.{only}
use Rattle.refusal.specs.Refusal.{accepted, kernel_rows, Exactly}
use Rattle.refusal.proofs.KernelNumber.{kernel_exactly}
use Rattle.refusal.specs.declared.Refusal.{Refusal}
use Rattle.quadratic_bending.specs.declared.Bending.{Bending}
use Rattle.bending.specs.Bending.{wdw_of}
use Rattle.quadratic_bending.proofs.Given.{given_once}
use Rattle.quadratic_bending.specs.Bending.{BendingGiven, bending_given, corners_of, tests_of, bending_of, answer_of, IsBending}

-- no second answer fits
pub unique : (f : Format) (p_ini p_def : List (List Float)) {r q : BendingGiven} → IsBending f p_ini p_def r → IsBending f p_ini p_def q → r ≡ q
unique f p_ini p_def = only

-- nor does a second result of `wdw`
pub unique_result : (f : Format) (p_ini p_def : List (List Float)) {r q : Result Bending Refusal} → IsBending f p_ini p_def (bending_given f r) → IsBending f p_ini p_def (bending_given f q) → r ≡ q
unique_result f p_ini p_def a b = given_once f _ _ (only a b)

module _ (f : Format) (p_ini p_def : List (List Float)) {r : BendingGiven} (is : IsBending f p_ini p_def r) where
  open ops f use {zero}

  pub numbers_exactly : Exactly r.number (kernel_rows (tests_of f (corners_of p_ini) (corners_of p_def)))
  unfolding answer_of bending_of
  numbers_exactly = rw is (kernel_exactly _)

  -- where nothing is refused the values are the source's
  pub accepted_values : r.number ≡ accepted → (r.w, r.dwdp) ≡ wdw_of f (corners_of p_ini) (corners_of p_def)
  unfolding answer_of bending_of
  accepted_values = rw is (λ h. rw h)

  -- after a refusal every value is +0
  pub refused_values : (r.number ≡ accepted → ⊥) → (r.w ≡ replicate 3 zero) × (r.dwdp ≡ replicate 36 zero)
  unfolding answer_of bending_of
  refused_values = rw is (λ h. let e = ne_eqb _ accepted h in (rw e, rw e))
