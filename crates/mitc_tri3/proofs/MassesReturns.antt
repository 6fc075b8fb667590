-- What each return of `mass_lumped_plate_bending` has to show, in every format, from its tests in the code's order: the row of its number is the first whose test holds,
-- and the buffer is what that number leaves.
use mathlib.Core.Path.{◌≡◌, refl, sym, ◌∙◌}
use mathlib.Core.Bool.{Bool, true, false, not}
use mathlib.Core.List.{List}
use Prim.Native.Nat.{ℕ}
use lib.Ieee.{Float, Format}
use lib.ListN.{length}
use Rattle.float.specs.Lists.{all_finite, cleared}
use Rattle.refusal.specs.Refusal.{accepted, bad_length, bad_name, bad_input, turned, bad_answer, first_of}
use Rattle.refusal.specs.Left.{left_of}
use Rattle.refusal.specs.Panel.{bad_length_of, names_below}
use Rattle.places.specs.Plane.{vertices_of}
use Rattle.masses.specs.Masses.{add_all, masses_of}
use Rattle.mitc_tri3.specs.Masses.{bad_input_of, none_turned, keeps, number_of, buffer_of}

module _ (f : Format) (tri : List ℕ) (xy : List Float) (thick rho : Float) (before : List Float) where
  -- what `IsMasses` says of a material of this thickness and density
  abbrev Answer : ℕ → List Float → Type 0
  Answer r after = (r ≡ number_of f tri xy thick rho before) × (after ≡ buffer_of f tri xy thick rho before)

  abbrev masses : List Float
  masses = masses_of f tri xy thick rho before

  given : (r : ℕ) {after : List Float} → number_of f tri xy thick rho before ≡ r → after ≡ left_of f keeps r masses before → Answer r after
  unfolding buffer_of
  given r e g = (sym e, rw e g)

  module _ {bad1 : Bool} (t1 : bad1 ≡ bad_length_of (vertices_of xy) (length tri) (length before)) where
    pub refused_1 : bad1 ≡ true → Answer bad_length before
    unfolding number_of first_of left_of
    refused_1 e = given bad_length (rw (← t1, e)) refl

    module _ (e1 : bad1 ≡ false) {good2 : Bool} (t2 : good2 ≡ names_below (vertices_of xy) tri) where
      pub refused_2 : not good2 ≡ true → Answer bad_name before
      unfolding number_of first_of left_of
      refused_2 e = given bad_name (rw (← t1, e1, ← t2, e)) refl

      module _ (e2 : not good2 ≡ false) {bad3 : Bool} (t3 : bad3 ≡ bad_input_of tri xy thick rho) where
        pub refused_3 : bad3 ≡ true → Answer bad_input before
        unfolding number_of first_of left_of
        refused_3 e = given bad_input (rw (← t1, e1, ← t2, e2, ← t3, e)) refl

        module _ (e3 : bad3 ≡ false) {good6 : Bool} (t6 : good6 ≡ none_turned f tri xy) where
          pub refused_6 : not good6 ≡ true → Answer turned before
          unfolding number_of first_of left_of
          refused_6 e = given turned (rw (← t1, e1, ← t2, e2, ← t3, e3, ← t6, e)) refl

          -- the buffer is cleared, and the triangles are added to it
          module _ (e6 : not good6 ≡ false) {m1 m2 : List Float} (d1 : m1 ≡ cleared f before) (d2 : m2 ≡ add_all f tri xy thick rho m1) {good5 : Bool} (t5 : good5 ≡ all_finite m2) where
            made : m2 ≡ masses
            unfolding masses_of
            made = d2 ∙ rw d1

            pub refused_5 : {m3 : List Float} → not good5 ≡ true → length m2 ≡ length before → m3 ≡ cleared f m2 → Answer bad_answer m3
            unfolding number_of first_of left_of
            refused_5 e l d = given bad_answer (rw (← t1, e1, ← t2, e2, ← t3, e3, ← t6, e6, ← made, ← t5, e)) (d ∙ rw l)

            pub done : not good5 ≡ false → Answer accepted m2
            unfolding number_of first_of left_of
            done e = given accepted (rw (← t1, e1, ← t2, e2, ← t3, e3, ← t6, e6, ← made, ← t5, e)) made
