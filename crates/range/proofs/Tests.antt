-- Numbers compare as their exact values do. From 2 ^ (prec - 1) on only whole numbers are floats, and a sum there is off by 1 at most; so a number comes back from there exactly where it is whole.
use mathlib.Core.Path.{◌≡◌, refl, sym}
use mathlib.Core.Bool.{Bool, true, false, ◌&&◌, false≢true, and-eq-true_iff}
use mathlib.Core.Logic.Iff
use mathlib.Core.Logic.{◌↔◌}
use Prim.Native.Nat.{ℕ, ◌+◌, ◌-◌, ◌*◌, ◌%◌, ◌^◌, ◌≤◌, ◌<◌}
use native.Mathlib.Nat.{mul-le-mul_right, mul-le-mul_left, le_of_mul-le-mul_right, le_of_mul-le-mul_left, le_refl}
use native.Mathlib.Omega.{arith}
use lib.Dec.{T, eqb}
use lib.Pow.{pow_pos}
use lib.Ieee.{Float, nan, inf, fin, Format, prec, low, fits, neg, eq, le}
use lib.Ieee.Fits.{add-fits}
use lib.Ieee.Scale.{finite}
use borrow.Author.Tests.{leb-true}
use Rattle.float.specs.Ops.{ops}
use Rattle.float.proofs.Scan.{both}
use Rattle.float.proofs.Finite.{sub_finite}
use Rattle.rounding.specs.Exact.{Num, Equal, ◌⊞◌, ◌⊟◌, scale, size_of, signed, mag, sign, value, Number}
use Rattle.rounding.specs.Dyadic.{Dyad}
use Rattle.rounding.specs.Whole.{unit, is_number, is_whole_up_to}
use Rattle.rounding.specs.Range.{between}
use Rattle.rounding.proofs.Num.{size_scale}
use Rattle.rounding.proofs.Value.{size_value}
use Rattle.rounding.proofs.Rounding.{add_rounded}
use Rattle.rounding.proofs.Order.{left, compared}
use Rattle.rounding.proofs.Margin.{Between}
use Rattle.rounding.proofs.Dyadic.{whole_room, dyad_neg, dyad_add, dyad_difference}
use Rattle.rounding.proofs.Whole.{coordinate, multiple_whole, large_whole}
use Rattle.rounding.proofs.Range.{between_iff}

same : (a b : Bool) → a ≡ true ↔ b ≡ true → a ≡ b
same true b h = sym (h.0 refl)
same false true h = h.1 refl
same false false h = refl

-- what lies between two finite numbers is finite
squeezed : (y x z : Float) → T (finite y) → T (finite z) → (le y x && le x z) ≡ true → T (finite x)
unfolding le
squeezed nan x z p q h = absurd p
squeezed (inf u) x z p q h = absurd p
squeezed (fin u k d) (fin s m e) z p q h = tt
squeezed (fin u k d) nan z p q h = absurd (false≢true h)
squeezed (fin u k d) (inf true) z p q h = absurd (false≢true h)
squeezed (fin u k d) (inf false) nan p q h = q
squeezed (fin u k d) (inf false) (inf s) p q h = q
squeezed (fin u k d) (inf false) (fin s m e) p q h = absurd (false≢true h)

equal_finite : (x y : Float) → eq x y ≡ true → T (finite y) → T (finite x)
unfolding eq
equal_finite nan y e t = absurd (false≢true e)
equal_finite (inf s) nan e t = t
equal_finite (inf s) (inf u) e t = t
equal_finite (inf s) (fin u n d) e t = absurd (false≢true e)
equal_finite (fin s m e) y h t = tt

-- ---- whole numbers
-- X is of size B * U at most, Y is F * U, and Z is their sum, rounded
module _ (B F U : ℕ) (X Y Z : Num) (small : size_of X ≤ B * U) (is : Equal Y (scale U (signed false F))) where
  -- it is off by U at most
  off : (P : ℕ) → 0 < P → F + B ≤ P → size_of (scale 1 Z ⊟ (X ⊞ Y)) * P ≤ 1 * size_of (X ⊞ Y) → size_of (scale 1 Z ⊟ (X ⊞ Y)) ≤ U
  off P P+ to rounded = let s : size_of (X ⊞ Y) ≤ (F + B) * U = omega arith in le_of_mul-le-mul_right (omega (arith, rounded, s, mul-le-mul_right U to)) P+

  -- so it is large, and where it is a multiple of U, one near to Y
  near : (H : ℕ) → 0 < U → H + B + 1 ≤ F → size_of (scale 1 Z ⊟ (X ⊞ Y)) ≤ U → (H * U ≤ size_of Z) × ((n : Num) → Equal Z (scale U n) → size_of (n ⊟ signed false F) ≤ B + 1)
  near H U+ from d = (
    omega (arith, mul-le-mul_right U from),
    λ n e. le_of_mul-le-mul_left (rw (← size_scale U (n ⊟ signed false F)) (omega (arith, small, is, d, e))) U+,
  )

module _ (f : Format) (B F : ℕ) (top far : Float) (t : Dyad f top (low f) (signed false B) B) (d : Dyad f far (low f) (signed false F) F)
    (from : 2 ^ (prec f - 1) + B + 1 ≤ F) (to : F + B + 1 < 2 ^ prec f) (x : Float) where
  open ops f use {◌⊕◌, ◌⊖◌}

  infixl 75 ◌⊕◌ ◌⊖◌
  within : Number f x → (le (neg top) x && le x top) ≡ true ↔ size_of (value f x) ≤ B * unit f
  within n =
      Iff.trans (and-eq-true_iff _ _) (Iff.trans (Iff.and (compared f (neg top) x (dyad_neg t).number n).most (compared f x top n t.number).most)
      ((λ h. omega (arith, (dyad_neg t).is, t.is, h.0, h.1)), λ h. (omega (arith, (dyad_neg t).is), omega (arith, t.is))))

  comes_back : is_whole_up_to f B x ≡ true → eq (x ⊕ far ⊖ far) x ≡ true
  comes_back e =
      let a = coordinate f B x e in
      let there = dyad_add f (whole_room f) a d (omega arith) in
      let back = dyad_difference f {D = B} (whole_room f) there d (omega (arith, a.small)) (omega arith) in
      (compared f _ x back.number a.number).same.1 (omega (arith, back.is, a.is))

  whole : Number f x → size_of (value f x) ≤ B * unit f → eq (x ⊕ far ⊖ far) x ≡ true → is_whole_up_to f B x ≡ true
  whole n small e =
      let there : Number f (x ⊕ far) = record { fit = add-fits f x far; fine = (sub_finite f (x ⊕ far) far (equal_finite _ x e n.fine)).0 } in
      let r = off B F (unit f) (value f x) (value f far) (value f (x ⊕ far)) small d.is (2 ^ prec f) (pow_pos (prec f)) (omega arith)
      (add_rounded f x far n.fit d.number.fit there.fine).within in
      let z = near B F (unit f) (value f x) (value f far) (value f (x ⊕ far)) small d.is (2 ^ (prec f - 1)) (pow_pos (low f)) from r in
      let (m, is) = large_whole f (x ⊕ far) there z.0 in
      let back = dyad_difference f (whole_room f) (record { number = there; is = is; small = le_refl (size_of m) }) d (z.1 m is) (omega arith) in
      multiple_whole f B x (m ⊟ signed false F) n (omega (arith, back.is, (compared f _ x back.number n).same.0 e)) small

  pub is_whole : T (fits f x) → (le (neg top) x && le x top && eq (x ⊕ far ⊖ far) x) ≡ is_whole_up_to f B x
  unfolding is_whole_up_to
  is_whole fit = same _ _ (
    (λ e.
        let (l, b) = both (le (neg top) x && le x top) _ e in
        let n : Number f x = record { fit = fit; fine = squeezed (neg top) x top (dyad_neg t).number.fine t.number.fine l } in
        whole n ((within n).0 l) b),
    λ e. rw ((within (coordinate f B x e).number).1 (rw (size_value f x) (leb-true _ _ (both (is_number f x && eqb (mag f x % unit f) 0) _ e).1)), comes_back e),
  )

-- ---- factors: K units are 1 / R
module _ (f : Format) (R K : ℕ) (least most : Float) (a : Dyad f least 0 (signed false K) K) (b : Dyad f most (low f) (signed false R) R) (R+ : 0 < R) (K+ : 0 < K)
    (e : unit f ≡ R * K) (x : Float) where
  in_units : Number f x → (s : Bool) → sign x ≡ s → left (value f least) (signed s (mag f x)) ≤ left (signed s (mag f x)) (value f least)
      → left (signed s (mag f x)) (value f most) ≤ left (value f most) (signed s (mag f x)) → Between f R x
  in_units n true d h g = absurd (omega (arith, h, a.is))
  in_units n false d h g = record { number = n; above = d; least = rw e (mul-le-mul_left R (omega (arith, h, a.is))); most = omega (arith, g, b.is) }

  pub is_factor : T (fits f x) → (le least x && le x most) ≡ between f R x
  unfolding value
  is_factor fit = same _ _ (
    (λ h.
        let n : Number f x = record { fit = fit; fine = squeezed least x most a.number.fine b.number.fine h } in
        let (p, q) = both (le least x) _ h in
        (between_iff f R x).1 (in_units n (sign x) refl ((compared f least x a.number n).most.0 p) ((compared f x most n b.number).most.0 q))),
    λ h.
        let i = (between_iff f R x).0 h in
        let enough : K ≤ mag f x = le_of_mul-le-mul_left (rw e at i.least) R+ in
        rw (
          (compared f least x a.number i.number).most.1 (rw i.above (omega (arith, a.is))),
          (compared f x most i.number b.number).most.1 (rw i.above (omega (arith, b.is, i.most))),
        ),
  )
