-- What `wdw` of quadratic_bending.rs answers (01-scope 5.6), under the source's names, over the format.
use Rattle.std.specs.Prelude.{◌≡◌, Bool, false, cond, not, ◌&&◌, ◌||◌, List, ℕ, eqb, Float, replicate, Result, Ok, Err}
use Rattle.std.specs.Float.{Format}
use Rattle.float.specs.Ops.{ops}
use Rattle.float.specs.Numbers.{is_zero}
use Rattle.float.specs.Lists.{all_finite}
use Rattle.corners.specs.Space.{point_finite}
pub use Rattle.bending.specs.Bending.{corners_of}
use Rattle.bending.specs.Bending.{divisors_of, wdw_of}
use Rattle.bending.specs.declared.Fold.{Fold}
use Rattle.refusal.specs.Answers.{zero_divisor_of}
use Rattle.refusal.specs.Refusal.{accepted, kernel_number}
use Rattle.refusal.specs.declared.Tests.{Tests}
use Rattle.refusal.specs.Numbers.{refusal_number}
use Rattle.refusal.specs.declared.Refusal.{Refusal}
use Rattle.quadratic_bending.specs.declared.Bending.{Bending}

unfoldable pub is_finite_of : Fold → Bool
is_finite_of p = point_finite p.p0 && point_finite p.p1 && point_finite p.p2 && point_finite p.p3

-- what is given: the number, the values and their derivatives
pub record BendingGiven : Type 0 where
  pub number : ℕ
  pub w : List Float
  pub dwdp : List Float

module _ (f : Format) where
  open ops f use {zero}

  -- for an answer: the values with 0, or the number of the refusal with +0 throughout
  abbrev pub bending_given : Result Bending Refusal → BendingGiven
  bending_given (Ok b) = record { number = accepted; w = b.w; dwdp = b.dwdp }
  bending_given (Err refusal) = record { number = refusal_number refusal; w = replicate 3 zero; dwdp = replicate 36 zero }

  -- what is refused (01-scope 2.1)
  unfoldable pub tests_of : (ini def : Fold) → Tests
  tests_of ini def =
      let d = divisors_of f ini in
      let (w, dwdp) = wdw_of f ini def in
      record {
        -- 3: a number of the corners is not finite
        bad_input = not (is_finite_of ini && is_finite_of def);
        bad_stiffness = false;
        turned = false;
        -- 4: one of the divisors of 5.6 is zero
        zero_divisor = is_zero d.len || zero_divisor_of d.h0 d.h1 d.root_len;
        -- 5: a number of the answer is not finite
        bad_answer = not (all_finite w && all_finite dwdp);
      }

  -- the values where nothing is refused, else +0 throughout
  unfoldable pub bending_of : (number : ℕ) (w dwdp : List Float) → BendingGiven
  bending_of number w dwdp =
      let keep = eqb number accepted in
      record { number = number; w = cond keep w (replicate 3 zero); dwdp = cond keep dwdp (replicate 36 zero) }

  unfoldable pub answer_of : (ini def : Fold) → BendingGiven
  answer_of ini def = let (w, dwdp) = wdw_of f ini def in bending_of (kernel_number (tests_of ini def)) w dwdp

  -- THE statement of `wdw`
  abbrev pub IsBending : (p_ini p_def : List (List Float)) (r : BendingGiven) → Type 0
  IsBending p_ini p_def r = r ≡ answer_of (corners_of p_ini) (corners_of p_def)
