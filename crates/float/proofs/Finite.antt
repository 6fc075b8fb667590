-- A finite result has finite operands: an infinity or a NaN makes no sum, difference or product finite, and is no dividend of a finite quotient.
use mathlib.Core.Bool.{Bool, true, false, beq, cond}
use lib.Dec.{T, eqb}
use lib.Ieee.{Float, nan, inf, fin, Format, unlike, neg, add, sub, mul, div}
use lib.Ieee.Scale.{finite}
use Rattle.float.specs.Ops.{ops}

opposite_finite : (x : Float) → T (finite (neg x)) → T (finite x)
unfolding neg
opposite_finite nan t = t
opposite_finite (inf s) t = t
opposite_finite (fin s m e) t = t

pub never_finite : (b s : Bool) → T (finite (cond b nan (inf s))) → ⊥
never_finite true s t = t
never_finite false s t = t

module _ (f : Format) where
  open ops f use {◌⊕◌, ◌⊖◌, ◌⊗◌, ◌⊘◌}

  infixl 75 ◌⊕◌ ◌⊖◌
  infixl 80 ◌⊗◌ ◌⊘◌
  pub add_finite : (x y : Float) → T (finite (x ⊕ y)) → T (finite x) × T (finite y)
  unfolding add
  add_finite nan y t = absurd t
  add_finite (inf s) nan t = absurd t
  add_finite (inf s) (inf u) t = absurd (never (beq s u) t)
    where
      never : (b : Bool) → T (finite (cond b (inf s) nan)) → ⊥
      never true t = t
      never false t = t
  add_finite (inf s) (fin u n d) t = absurd t
  add_finite (fin s m e) nan t = absurd t
  add_finite (fin s m e) (inf u) t = absurd t
  add_finite (fin s m e) (fin u n d) t = (tt, tt)

  pub sub_finite : (x y : Float) → T (finite (x ⊖ y)) → T (finite x) × T (finite y)
  unfolding sub
  sub_finite x y t = let h = add_finite x (neg y) t in (h.0, opposite_finite y h.1)

  pub mul_finite : (x y : Float) → T (finite (x ⊗ y)) → T (finite x) × T (finite y)
  unfolding mul
  mul_finite nan y t = absurd t
  mul_finite (inf s) nan t = absurd t
  mul_finite (inf s) (inf u) t = absurd t
  mul_finite (inf s) (fin u n d) t = absurd (never_finite (eqb n 0) (unlike s u) t)
  mul_finite (fin s m e) nan t = absurd t
  mul_finite (fin s m e) (inf u) t = absurd (never_finite (eqb m 0) (unlike s u) t)
  mul_finite (fin s m e) (fin u n d) t = (tt, tt)

  -- of the divisor nothing is known: a number over an infinity is a zero
  pub dividend_finite : (x y : Float) → T (finite (x ⊘ y)) → T (finite x)
  unfolding div
  dividend_finite nan y t = absurd t
  dividend_finite (inf s) nan t = absurd t
  dividend_finite (inf s) (inf u) t = absurd t
  dividend_finite (inf s) (fin u n d) t = absurd t
  dividend_finite (fin s m e) y t = tt
