-- A word that stands for no stiffness is refused by what uses it: a zero times a is finite exactly where a is, so 3 looks at both numbers all the same; and it is above no zero, so 7 is next.
use mathlib.Core.Path.{◌≡◌, refl, ◌∙◌}
use mathlib.Core.Bool.{Bool, true, false, cond, false≢true, ◌&&◌}
use mathlib.Core.Logic.{◌↔◌, inl, inr}
use Prim.Native.Nat.{ℕ}
use native.Mathlib.Omega.{arith}
use lib.Dec.{eqb}
use lib.IntN.{ℤ, pos}
use lib.Ieee.{Float, nan, inf, fin, Format, binary32, binary64, unlike, lt, mul, round}
use lib.Ieee.Fits.{down_pos}
use lib.Ieee.Scale.{finite, round_same}
use borrow.Author.Tests.{eqb-true, eqb-false, ne_eqb, not-false}
use Rattle.float.specs.Ops.{ops}
use Rattle.float.proofs.Bits.{zero_is}
use Rattle.refusal.specs.Refusal.{bad_stiffness, kernel_number}
use Rattle.refusal.proofs.KernelNumber.{seven_exactly}
use Rattle.material.specs.Material.{lame_word, young_word, is_finite_of, is_bad_of, tested_of, of_word, BadWord}
use Rattle.material.specs.declared.Stiffness.TheVariants.{Lame, Young}

abbrev nought : Bool → Float
nought s = fin s 0 (pos 0)

zero_rounded : (f : Format) (s : Bool) → round f s 0 1 ≡ nought s
unfolding round
zero_rounded binary32 s = refl
zero_rounded binary64 s = refl

not_above : (s : Bool) → lt (nought false) (nought s) ≡ false
unfolding lt
not_above true = refl
not_above false = refl

module _ (f : Format) where
  open ops f use {◌⊗◌, zero}

  infixl 80 ◌⊗◌
  zero_times : (s : Bool) (m : ℕ) (e : ℤ) → zero ⊗ fin s m e ≡ nought (unlike false s)
  unfolding mul
  zero_times s m e = rw (zero_is f) (round_same f _ _ _ 0 1 (omega (arith, down_pos e)) (omega arith) (omega arith) ∙ zero_rounded f _)

  zero_times_finite : (a : Float) → finite (zero ⊗ a) ≡ finite a
  unfolding mul
  zero_times_finite nan = rw (zero_is f)
  zero_times_finite (inf s) = rw (zero_is f)
  zero_times_finite (fin s m e) = rw (zero_times s m e)

  zero_times_low : (a : Float) → lt zero (zero ⊗ a) ≡ false
  unfolding mul lt
  zero_times_low nan = rw (zero_is f)
  zero_times_low (inf s) = rw (zero_is f)
  zero_times_low (fin s m e) = rw (zero_times s m e, zero_is f) (not_above (unlike false s))

  module _ (s : ℕ) (a b : Float) where
    -- whatever the word, its numbers are looked at as they are given
    pub word_finite : is_finite_of (of_word f s a b) ≡ finite a && finite b
    unfolding is_finite_of of_word
    word_finite = split (eqb s lame_word) (eqb s young_word)
      where
        split : (lame young : Bool) → is_finite_of (cond lame (Lame a b) (cond young (Young a b) (Young (zero ⊗ a) b))) ≡ finite a && finite b
        split true young = refl
        split false true = refl
        split false false = rw (zero_times_finite a)

    -- it is for no stiffness, or for Young's, and that one is none that a sheet can have
    pub word_bad : is_bad_of f (of_word f s a b) ≡ true ↔ BadWord f s a b
    unfolding is_bad_of of_word
    word_bad = (there (eqb s lame_word) (eqb s young_word) refl refl, back)
      where
        there : (lame young : Bool) → eqb s lame_word ≡ lame → eqb s young_word ≡ young
            → is_bad_of f (cond lame (Lame a b) (cond young (Young a b) (Young (zero ⊗ a) b))) ≡ true → BadWord f s a b
        there true young l y h = absurd (false≢true h)
        there false true l y h = inr (eqb-true s young_word y, h)
        there false false l y h = inl (eqb-false s lame_word l, eqb-false s young_word y)

        back : BadWord f s a b → is_bad_of f (of_word f s a b) ≡ true
        back (inl (l, y)) = rw (ne_eqb s lame_word l, ne_eqb s young_word y, zero_times_low a)
        back (inr (y, h)) = rw y h

    -- THE law of 7 for a kernel's material that comes as a word and numbers
    pub word_seven : (others right divisor answer : Bool)
        → kernel_number (tested_of f (of_word f s a b) others right divisor answer) ≡ bad_stiffness ↔ ((others && (finite a && finite b) ≡ true) × BadWord f s a b)
    unfolding tested_of
    word_seven others right divisor answer =
        let seven = seven_exactly (tested_of f (of_word f s a b) others right divisor answer) in
        ((λ e. let h = seven.0 e in (rw word_finite at (not-false (others && is_finite_of (of_word f s a b)) h.0), word_bad.0 h.1)), λ h. seven.1 (rw (word_finite, h.0), word_bad.1 h.1))
