-- Young's modulus with Poisson's ratio is to a skin the Lamé pair that is computed of them: where they are taken, triangle by triangle; and else because a first triangle that is refused decides.
use mathlib.Core.Path.{◌≡◌, refl, ap, sym, subst, ◌∙◌, fun_ext}
use mathlib.Core.Bool.{Bool, true, false, true≢false, ◌&&◌}
use mathlib.Core.List.{List, [], ◌∷◌}
use mathlib.Core.Logic.{◌⊎◌, inl, inr}
use Prim.Native.Nat.{ℕ}
use lib.Ieee.{Float, Format}
use lib.ListN.{length}
use borrow.Author.Tests.{ne_eqb}
use Rattle.float.specs.Lists.{map_threes, fold_threes}
use Rattle.refusal.specs.Refusal.{accepted, bad_stiffness, Row, first_of}
use Rattle.refusal.specs.Answers.{EnergyGiven, taken_of}
use Rattle.refusal.specs.Left.{left_of}
use Rattle.refusal.specs.Listed.{first_refusal, first_place, listed_number, listed_place}
use Rattle.refusal.proofs.ListedNumber.{refuses, by_early, by_answer}
use Rattle.material.specs.Material.{is_finite_of, lame_of, computed, is_bad_of, lame_material, young_material}
use Rattle.material.specs.declared.Stiffness.TheVariants.{Young}
use Rattle.corners.specs.Space.{is_finite_of as corners_finite}
use Rattle.places.specs.Space.{corners_at}
use Rattle.stvk_tri3.specs.Stvk.{divisor_is_zero, numbers_of as stvk_numbers}
use Rattle.stvk_tri3.proofs.EnergyAnswer.{young_stvk, stvk_taken}
use Rattle.skin.specs.Sums.{Kernel, numbers_of, energy_of, gradient_of}
use Rattle.skin.specs.declared.SkinGiven.{SkinGiven}
use Rattle.skin.specs.Skin.{early_of, late_of, skin_of, answer_of, IsSkinOver, IsSkin}
use Rattle.skin.specs.Parts.{refused_of}
use Rattle.skin.proofs.Stiffness.{seven_bad, taken_good}

-- a first triangle that is refused decides: the answer is what lengths and names give, or else that triangle's number
module _ (f : Format) (ini def x y z : ℕ) (l : List ℕ) (before : List Float) where
  abbrev tri2vtx : List ℕ
  tri2vtx = x ∷ y ∷ z ∷ l

  abbrev first : List Row
  first = early_of ini def tri2vtx (length before)

  abbrev late_rows : Kernel → List Row
  late_rows K = late_of (energy_of f K tri2vtx) (gradient_of f K tri2vtx (length before))

  -- what is answered where n is given for the first triangle, or for none
  given : (K : Kernel) (n : ℕ) → (n ≡ accepted → ⊥) → (listed_number first (numbers_of K tri2vtx) (late_rows K) ≡ n) × (listed_place first (numbers_of K tri2vtx) (late_rows K) ≡ 0)
      → skin_of f K ini def tri2vtx (length before) ≡ refused_of f n 0
  unfolding skin_of
  given K n some is = rw (is.0, is.1, ne_eqb n accepted some)

  by_first : (K : Kernel) → first_of first ≡ accepted → ((K x y z).number ≡ accepted → ⊥) → skin_of f K ini def tri2vtx (length before) ≡ refused_of f (K x y z).number 0
  unfolding map_threes first_refusal first_place
  by_first K clear some = let n = ne_eqb _ accepted some in given K _ some (rw n at (by_answer first (numbers_of K tri2vtx) (late_rows K) clear (rw n some)))

  number_given : (K : Kernel) → first_of first ≡ accepted → ((K x y z).number ≡ accepted → ⊥) → {r : SkinGiven} → r ≡ skin_of f K ini def tri2vtx (length before) → r.number ≡ (K x y z).number
  number_given K clear some is = ap (λ (s : SkinGiven). s.number) (is ∙ by_first K clear some)

  -- so two kernels with one number there have one answer
  same : (A B : Kernel) → ((A x y z).number ≡ accepted → ⊥) → (first_of first ≡ accepted → (B x y z).number ≡ (A x y z).number)
      → ((skin_of f A ini def tri2vtx (length before)).number ≡ accepted → ⊥) × (skin_of f B ini def tri2vtx (length before) ≡ skin_of f A ini def tri2vtx (length before))
  same A B some alike = split (refuses (first_of first))
    where
      split : (first_of first ≡ accepted) ⊎ (first_of first ≡ accepted → ⊥)
          → ((skin_of f A ini def tri2vtx (length before)).number ≡ accepted → ⊥) × (skin_of f B ini def tri2vtx (length before) ≡ skin_of f A ini def tri2vtx (length before))
      split (inr refused) =
          let a = given A _ refused (by_early first _ (late_rows A) refused) in
          let b = given B _ refused (by_early first _ (late_rows B) refused) in
          rw (a, b) (refused, refl)
      split (inl clear) =
          let e = alike clear in
          let b = by_first B clear (rw e some) in
          rw (by_first A clear some, b, e) (some, refl)

module _ (f : Format) (vtx2ini vtx2def : List Float) (e v : Float) (h : is_finite_of (computed f e v) ≡ true) where
  abbrev young : Kernel
  young = answer_of f vtx2ini vtx2def (Young e v)

  abbrev lame : Kernel
  lame = answer_of f vtx2ini vtx2def (computed f e v)

  one : (i0 i1 i2 : ℕ) → ((young i0 i1 i2).number ≡ bad_stiffness → ⊥) → young i0 i1 i2 ≡ lame i0 i1 i2
  unfolding answer_of
  one i0 i1 i2 = young_stvk f _ _ e v h

  taken : is_bad_of f (Young e v) ≡ false → young ≡ lame
  taken good =
      fun_ext (λ i0. fun_ext (λ i1. fun_ext (λ i2. one i0 i1 i2 (λ seven. true≢false (sym (seven_bad f vtx2ini vtx2def (Young e v) i0 i1 i2 seven) ∙ good)))))

  refused : is_bad_of f (Young e v) ≡ true → (ini def : ℕ) (tri2vtx : List ℕ) (before : List Float) {r : SkinGiven} {after : List Float}
      → IsSkinOver f young ini def tri2vtx before r after → (r.number ≡ bad_stiffness → ⊥) → IsSkinOver f lame ini def tri2vtx before r after
  unfolding map_threes fold_threes energy_of gradient_of skin_of left_of
  refused bad ini def (x ∷ y ∷ z ∷ l) before {r} is other =
      let some : (young x y z).number ≡ accepted → ⊥ = λ a. true≢false (sym bad ∙ taken_good f vtx2ini vtx2def (Young e v) x y z a) in
      let s = same f ini def x y z l before young lame some (λ clear. ap (λ (a : EnergyGiven). a.number)
      (sym (one x y z (λ seven. other (number_given f ini def x y z l before young clear some is.0 ∙ seven))))) in
      (is.0 ∙ sym s.1, is.1 ∙ rw (ne_eqb r.number accepted (rw is.0 s.0)))
  refused bad ini def (x ∷ y ∷ []) before is other = is
  refused bad ini def (x ∷ []) before is other = is
  refused bad ini def [] before is other = is

  -- THE theorem of Young's modulus and Poisson's ratio: where 7 is not given and the computed pair is finite, the answer is that for the pair
  pub young_is_lame : (density thickness : Float) (tri2vtx : List ℕ) (before : List Float) {r : SkinGiven} {after : List Float}
      → IsSkin f vtx2ini vtx2def tri2vtx (young_material density thickness e v) before r after → (r.number ≡ bad_stiffness → ⊥)
      → let pair = lame_of f (Young e v) in IsSkin f vtx2ini vtx2def tri2vtx (lame_material density thickness pair.lambda pair.myu) before r after
  young_is_lame density thickness tri2vtx before {r} {after} is other = split (is_bad_of f (Young e v)) refl
    where
      split : (b : Bool) → is_bad_of f (Young e v) ≡ b → IsSkinOver f lame (length vtx2ini) (length vtx2def) tri2vtx before r after
      split true bad = refused bad _ _ tri2vtx before is other
      split false good = subst (λ (K : Kernel). IsSkinOver f K (length vtx2ini) (length vtx2def) tri2vtx before r after) (taken good) is

-- finite or not: once E and v are taken, a triangle with finite corners has the source's numbers on the pair, with 4 and 5, never 3 (`taken_never_3`)
pub triangle_taken : (f : Format) (vtx2ini vtx2def : List Float) (e v : Float) (i0 i1 i2 : ℕ) → let p0 = corners_at vtx2ini i0 i1 i2 in let p1 = corners_at vtx2def i0 i1 i2 in
    corners_finite p0 && corners_finite p1 ≡ true → is_finite_of (Young e v) ≡ true → is_bad_of f (Young e v) ≡ false
    → answer_of f vtx2ini vtx2def (Young e v) i0 i1 i2 ≡ taken_of f false (divisor_is_zero f p0) (stvk_numbers f p0 p1 (lame_of f (Young e v)))
unfolding answer_of
triangle_taken f vtx2ini vtx2def e v i0 i1 i2 = stvk_taken f _ _ e v
