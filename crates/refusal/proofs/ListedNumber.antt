-- When a call over a list gives which number, and for which place: whether what is tested early refuses, or an answer, or what is tested late, one case after the other.
use mathlib.Core.Path.{◌≡◌, refl, sym, ◌∙◌}
use mathlib.Core.Bool.{Bool, true, false, cond}
use mathlib.Core.List.{List}
use mathlib.Core.Logic.{◌↔◌, ◌⊎◌, inl, inr}
use Prim.Native.Nat.{ℕ, zero, suc, ◌≤◌, ◌<◌}
use native.Mathlib.Omega.{arith}
use lib.Dec.{eqb}
use borrow.Author.Tests.{ne_eqb}
use Rattle.refusal.specs.Refusal.{accepted, Row, first_of, Cause, Clear}
use Rattle.refusal.specs.Listed.{first_refusal, first_place, listed_number, listed_place, NoneRefused, ListedCause, ListedExactly}
use Rattle.refusal.proofs.Ladder.{Refusing, given_exactly, clear_exactly}
use Rattle.refusal.proofs.Listed.{first_exactly, none_exactly, none_place}

-- n refuses, or not
pub refuses : (n : ℕ) → (n ≡ accepted) ⊎ (n ≡ accepted → ⊥)
refuses zero = inl refl
refuses (suc n) = inr (λ (e : suc n ≡ accepted). omega arith)

module _ (early : List Row) (numbers : List ℕ) (late : List Row) where
  abbrev number : ℕ
  number = listed_number early numbers late

  abbrev place : ℕ
  place = listed_place early numbers late

  pub by_early : (first_of early ≡ accepted → ⊥) → (number ≡ first_of early) × (place ≡ 0)
  unfolding listed_number listed_place first_refusal
  by_early z = rw (ne_eqb _ accepted z) (refl, refl)

  pub by_answer : first_of early ≡ accepted → (first_refusal numbers ≡ accepted → ⊥) → (number ≡ first_refusal numbers) × (place ≡ first_place numbers)
  unfolding listed_number listed_place first_refusal
  by_answer e z = let ne = ne_eqb _ accepted z in rw (e, ne) (refl, rw ne)

  by_late : first_of early ≡ accepted → first_refusal numbers ≡ accepted → (first_of late ≡ accepted → ⊥) → (number ≡ first_of late) × (place ≡ first_place numbers)
  unfolding listed_number listed_place first_refusal
  by_late e a z = let ne = ne_eqb _ accepted z in rw (e, a, ne) (refl, rw ne)

  by_none : first_of early ≡ accepted → first_refusal numbers ≡ accepted → first_of late ≡ accepted → number ≡ accepted
  unfolding listed_number first_refusal
  by_none e a l = rw (e, a, l)

  -- what is given after what was tested early
  pub later_above : (m : ℕ) → first_of early ≡ accepted → ((first_refusal numbers ≡ accepted → ⊥) → m < first_refusal numbers)
      → ((first_of late ≡ accepted → ⊥) → m < first_of late) → (number ≡ accepted → ⊥) → m < number
  later_above m e answers lates z = split (refuses (first_refusal numbers)) (refuses (first_of late))
    where
      split : (first_refusal numbers ≡ accepted) ⊎ (first_refusal numbers ≡ accepted → ⊥) → (first_of late ≡ accepted) ⊎ (first_of late ≡ accepted → ⊥) → m < number
      split (inr a) l = rw (by_answer e a).0 (answers a)
      split (inl a) (inr l) = rw (by_late e a l).0 (lates l)
      split (inl a) (inl l) = absurd (z (by_none e a l))

  module _ (early-refusing : Refusing early) (late-refusing : Refusing late) where
    module _ (n k : ℕ) (some : n ≡ accepted → ⊥) where
      there : number ≡ n → place ≡ k → ListedCause n k early numbers late
      there e p = split (refuses (first_of early)) (refuses (first_refusal numbers)) (refuses (first_of late))
        where
          split : (first_of early ≡ accepted) ⊎ (first_of early ≡ accepted → ⊥) → (first_refusal numbers ≡ accepted) ⊎ (first_refusal numbers ≡ accepted → ⊥)
              → (first_of late ≡ accepted) ⊎ (first_of late ≡ accepted → ⊥) → ListedCause n k early numbers late
          split (inr c) a l = let is = by_early c in inl ((given_exactly n some early).0 (sym is.0 ∙ e), sym p ∙ is.1)
          split (inl c) (inr a) l =
              let is = by_answer c a in
              inr ((clear_exactly early early-refusing).0 c, inl ((first_exactly n some numbers k).0 (sym is.0 ∙ e, sym is.1 ∙ p)))
          split (inl c) (inl a) (inr l) =
              let is = by_late c a l in
              inr ((clear_exactly early early-refusing).0 c, inr ((none_exactly numbers).0 a, (given_exactly n some late).0 (sym is.0 ∙ e), sym p ∙ is.1 ∙ none_place numbers a))
          split (inl c) (inl a) (inl l) = absurd (some (sym e ∙ by_none c a l))

      back : ListedCause n k early numbers late → (number ≡ n) × (place ≡ k)
      back (inl (c, z)) =
          let e = (given_exactly n some early).1 c in
          let is = by_early (λ h. some (sym e ∙ h)) in
          (is.0 ∙ e, is.1 ∙ sym z)
      back (inr (c, inl at)) =
          let first = (first_exactly n some numbers k).1 at in
          let is = by_answer ((clear_exactly early early-refusing).1 c) (λ h. some (sym first.0 ∙ h)) in
          (is.0 ∙ first.0, is.1 ∙ first.1)
      back (inr (c, inr (none, l, z))) =
          let a = (none_exactly numbers).1 none in
          let e = (given_exactly n some late).1 l in
          let is = by_late ((clear_exactly early early-refusing).1 c) a (λ h. some (sym e ∙ h)) in
          (is.0 ∙ e, is.1 ∙ none_place numbers a ∙ sym z)

    -- where all that comes later is above m, the numbers up to m are given for what is tested early alone
    pub early_exactly : (m : ℕ) → ((first_refusal numbers ≡ accepted → ⊥) → m < first_refusal numbers) → ((first_of late ≡ accepted → ⊥) → m < first_of late)
        → (n : ℕ) → (n ≡ accepted → ⊥) → n ≤ m → number ≡ n ↔ (Cause n early × (place ≡ 0))
    early_exactly m answers lates n some h = (split (refuses (first_of early)), λ c. (back n 0 some (inl (c.0, refl))).0)
      where
        split : (first_of early ≡ accepted) ⊎ (first_of early ≡ accepted → ⊥) → number ≡ n → Cause n early × (place ≡ 0)
        split (inr c) e = let is = by_early c in ((given_exactly n some early).0 (sym is.0 ∙ e), is.1)
        split (inl c) e = absurd (omega (arith, e, h, later_above m c answers lates (λ z. some (sym e ∙ z))))

    all_clear : number ≡ accepted → Clear early × NoneRefused numbers × Clear late
    all_clear e = split (refuses (first_of early)) (refuses (first_refusal numbers)) (refuses (first_of late))
      where
        split : (first_of early ≡ accepted) ⊎ (first_of early ≡ accepted → ⊥) → (first_refusal numbers ≡ accepted) ⊎ (first_refusal numbers ≡ accepted → ⊥)
            → (first_of late ≡ accepted) ⊎ (first_of late ≡ accepted → ⊥) → Clear early × NoneRefused numbers × Clear late
        split (inr c) a l = absurd (c (sym (by_early c).0 ∙ e))
        split (inl c) (inr a) l = absurd (a (sym (by_answer c a).0 ∙ e))
        split (inl c) (inl a) (inr l) = absurd (l (sym (by_late c a l).0 ∙ e))
        split (inl c) (inl a) (inl l) = ((clear_exactly early early-refusing).0 c, (none_exactly numbers).0 a, (clear_exactly late late-refusing).0 l)

    no_place : number ≡ accepted → place ≡ 0
    unfolding listed_place
    no_place e = rw e (either (eqb (first_of early) accepted))
      where
        either : (b : Bool) → cond b 0 0 ≡ accepted
        either true = refl
        either false = refl

    -- THE law of a call over a list
    pub listed_exactly : ListedExactly number place early numbers late
    listed_exactly = record {
      refused_exactly = λ n k some. ((λ h. there n k some h.0 h.1), back n k some);
      accepted_exactly = (all_clear, λ h. by_none ((clear_exactly early early-refusing).1 h.0) ((none_exactly numbers).1 h.1) ((clear_exactly late late-refusing).1 h.2));
      no_place = no_place;
    }
