-- Two numbers of a format compare as their exact values do.
use mathlib.Core.Path.{◌≡◌, refl, ap}
use mathlib.Core.Bool.{Bool, true, false, ◌||◌, false≢true}
use mathlib.Core.Logic.Iff
use mathlib.Core.Logic.{◌↔◌, ⊎_elim}
use Prim.Native.Nat.{ℕ, ◌+◌, ◌*◌, ◌^◌, ◌≤◌, ◌<◌}
use native.Mathlib.Nat.{mul-lt-mul_of_pos_right, lt_of_mul-lt-mul_right, eq_of_mul-eq-mul_right, mul-pos, le_of_lt, le_of_eq, eq-or-lt_of_le}
use native.Mathlib.Omega.{arith}
use lib.Dec.{eqb}
use lib.Pow.{pow_pos}
use lib.Ieee.{Float, nan, inf, fin, Format, low, up, down, below, level, lt, eq, le}
use lib.Ieee.Fits.{down_pos}
use lib.Ieee.Exact.{HasValue}
use borrow.Author.Tests.{ltb-true, lt-ltb, eqb-true, eq-eqb}
use Rattle.float.proofs.Scan.{both}
use Rattle.rounding.specs.Exact.{Num, Equal, signed, mag, sign, value, Number}
use Rattle.rounding.proofs.Value.{known}

-- a is below b where a's left of b is below b's left of a: differences compared without taking them
abbrev pub left : Num → Num → ℕ
left a b = a.plus + b.minus

pub record Compared (x y : Float) (a b : Num) : Type 0 where
  pub less : lt x y ≡ true ↔ left a b < left b a
  pub same : eq x y ≡ true ↔ Equal a b
  pub most : le x y ≡ true ↔ left a b ≤ left b a

below_signed : (s t : Bool) (a b : ℕ) → below s a t b ≡ true ↔ left (signed s a) (signed t b) < left (signed t b) (signed s a)
below_signed false false a b = ((λ e. omega (arith, ltb-true a b e)), λ h. lt-ltb a b (omega arith))
below_signed false true a b = ((λ e. absurd (false≢true e)), λ h. absurd (omega arith))
below_signed true false a b = ((λ e. omega (arith, ltb-true 0 (a + b) e)), λ h. lt-ltb 0 (a + b) (omega arith))
below_signed true true a b = ((λ e. omega (arith, ltb-true b a e)), λ h. lt-ltb b a (omega arith))

level_signed : (s t : Bool) (a b : ℕ) → level s a t b ≡ true ↔ Equal (signed s a) (signed t b)
level_signed false false a b = ((λ e. omega (arith, eqb-true a b (both (eqb a b) _ e).0)), λ h. rw (eq-eqb a b (omega arith)))
level_signed true true a b = ((λ e. omega (arith, eqb-true a b (both (eqb a b) _ e).0)), λ h. rw (eq-eqb a b (omega arith)))
level_signed false true a b = ((λ e. let t = both (eqb a b) _ e in omega (arith, eqb-true a b t.0, eqb-true a 0 t.1)), λ h. rw (eq-eqb a b (omega arith), eq-eqb a 0 (omega arith)))
level_signed true false a b = ((λ e. let t = both (eqb a b) _ e in omega (arith, eqb-true a b t.0, eqb-true a 0 t.1)), λ h. rw (eq-eqb a b (omega arith), eq-eqb a 0 (omega arith)))

either : (a b : Bool) (p q : ℕ) → a ≡ true ↔ p < q → b ≡ true ↔ p ≡ q → (a || b) ≡ true ↔ p ≤ q
either true b p q less same = ((λ e. le_of_lt (less.0 refl)), λ h. refl)
either false b p q less same = ((λ e. le_of_eq (same.0 e)), λ h. ⊎_elim same.1 (λ l. absurd (false≢true (less.1 l))) (eq-or-lt_of_le h))

-- fractions ±A / c and ±B / c that are ±a / l and ±b / l
module _ (l c : ℕ) (l+ : 0 < l) (c+ : 0 < c) where
  sums : (A B a b : ℕ) (s t : Bool) → A * l ≡ a * c → B * l ≡ b * c → left (signed s A) (signed t B) * l ≡ left (signed s a) (signed t b) * c
  sums A B a b false false e d = omega arith
  sums A B a b false true e d = omega arith
  sums A B a b true false e d = omega arith
  sums A B a b true true e d = omega arith

  in_proportion : (P Q p q : ℕ) → P * l ≡ p * c → Q * l ≡ q * c → (P < Q ↔ p < q) × (P ≡ Q ↔ p ≡ q)
  in_proportion P Q p q e d = (
    ((λ h. lt_of_mul-lt-mul_right c (rw (← e, ← d) (mul-lt-mul_of_pos_right h l+))), λ h. lt_of_mul-lt-mul_right l (rw (e, d) (mul-lt-mul_of_pos_right h c+))),
    ((λ h. eq_of_mul-eq-mul_right c c+ p q (omega (arith, ap (λ (z : ℕ). z * l) h))), λ h. eq_of_mul-eq-mul_right l l+ P Q (omega (arith, ap (λ (z : ℕ). z * c) h))),
  )

  fractions : (A B a b : ℕ) (s t : Bool) → A * l ≡ a * c → B * l ≡ b * c
      → (below s A t B ≡ true ↔ left (signed s a) (signed t b) < left (signed t b) (signed s a)) × (level s A t B ≡ true ↔ Equal (signed s a) (signed t b))
  fractions A B a b s t e d =
      let k = in_proportion _ _ _ _ (sums A B a b s t e d) (sums B A b a t s d e) in
      (Iff.trans (below_signed s t A B) k.0, Iff.trans (level_signed s t A B) k.1)

pub compared : (f : Format) (x y : Float) → Number f x → Number f y → Compared x y (value f x) (value f y)
unfolding value lt eq le
compared f x y n m = go x y (sign x) (sign y) (mag f x) (mag f y) (known f x n).has (known f y m).has
  where
    go : (x y : Float) (s t : Bool) (a b : ℕ) → HasValue x s a (2 ^ low f) → HasValue y t b (2 ^ low f) → Compared x y (signed s a) (signed t b)
    go nan y s t a b h k = absurd h
    go (inf u) y s t a b h k = absurd h
    go (fin u m e) nan s t a b h k = absurd k
    go (fin u m e) (inf v) s t a b h k = absurd k
    go (fin u m e) (fin v n d) s t a b h k =
        let r = fractions (2 ^ low f) (down e * down d) (pow_pos (low f)) (mul-pos (down_pos e) (down_pos d)) (m * up e * down d) (n * up d * down e) a b s t
        (omega (arith, ap (λ (z : ℕ). z * down d) h.1)) (omega (arith, ap (λ (z : ℕ). z * down e) k.1)) in
        rw (h.0, k.0) (record { less = r.0; same = r.1; most = either _ _ _ _ r.0 r.1 })
