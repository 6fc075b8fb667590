-- How the rule is met: a finite number above 0 by M and the nearest whole root of it, both over powers of two; each other number by its case.
use mathlib.Core.Path.{◌≡◌, refl, ap, ◌∙◌}
use mathlib.Core.Bool.{true, false, true≢false, false≢true}
use Prim.Native.Nat.{ℕ, zero, suc, ◌+◌, ◌-◌, ◌*◌, ◌^◌, ◌≤◌, ◌<◌}
use native.Mathlib.Nat.{lt_of_lt_of_le, not-le_of_lt, zero-lt-suc, mul-pos}
use native.Mathlib.Omega.{arith}
use borrow.Author.Tests.{ltb-false}
use lib.Dec.{T}
use lib.Pow.{pow-add, pow_pos}
use lib.Ieee.{Float, nan, inf, fin, Format, binary32, binary64, prec, up, down, minus, hid, ones, fits, to_bits}
use lib.Ieee.Digits.{minus_val}
use lib.Ieee.Exact.{HasValue}
use lib.Ieee.Fits.{up_pos}
use lib.Ieee.Positive.{above, positive, positive_of_value}
use Rattle.float.proofs.Value.{rescale}
use Rattle.float.specs.Numbers.{is_zero}
use Rattle.float.proofs.Patterns.{finite_below}
use Rattle.whole_root.specs.Whole.{Close}
use Rattle.whole_root.proofs.Whole.{not_below, not_above}
use Rattle.root.specs.Root.{Nearest, IsRoot}

-- the powers of two that the rule names, by the weight of the leading digit
pub powers : (f : Format) → (2 ^ prec f ≡ 2 * hid f) × (2 ^ (2 * (prec f - 1)) ≡ hid f * hid f) × (2 ^ (2 * prec f) ≡ 4 * (hid f * hid f))
powers binary32 = (refl, refl, refl)
powers binary64 = (refl, refl, refl)

pub double : (a : ℕ) → 2 ^ (2 * a) ≡ 2 ^ a * 2 ^ a
double a = let e : 2 * a ≡ a + a = omega arith in ap (λ (z : ℕ). 2 ^ z) e ∙ pow-add 2 a a

-- ---- a finite number above 0: n is nearest to M's root, and M has the digits that the rule asks for, with room above it for the rounding
pub record Rounded (f : Format) (M n : ℕ) : Type 0 where
  pub from : hid f * hid f ≤ M
  pub room : M + 2 * hid f ≤ 4 * (hid f * hid f)
  pub close : Close M n

module _ (f : Format) (M n : ℕ) (w : Rounded f M n) where
  pub in_range_lem : (hid f ≤ n) × (n < 2 * hid f)
  in_range_lem = (not_below (hid f) M n w.from w.close, not_above (2 * hid f) M n (omega (arith, pow_pos (prec f - 1))) (omega (arith, w.room)) w.close)

  pub found : (j c : ℕ) (x y : Float) → HasValue x false (M * 2 ^ (2 * j)) (2 ^ (2 * c)) → HasValue y false (n * 2 ^ j) (2 ^ c) → T (fits f y) → Nearest f x y
  found j c x y v u t =
      let k = minus j c in
      let P = powers f in
      record {
        R = n;
        M = M;
        k = k;
        R-from = in_range_lem.0;
        R-below = omega (arith, in_range_lem.1, P.0);
        M-from = omega (arith, w.from, P.1);
        M-below = omega (arith, w.room, P.2, pow_pos (prec f - 1));
        x_is = rescale x false _ _ (M * (up k * up k)) (down k * down k) (pow_pos (2 * c)) (squares (up k) (down k) (minus_val 1 j c)) v;
        r_is = rescale y false _ _ (n * up k) (down k) (pow_pos c) (minus_val n j c) u;
        close = w.close;
        fit = t;
      }
    where
      squares : (U D : ℕ) → 1 * U * 2 ^ c ≡ 1 * 2 ^ j * D → M * (U * U) * 2 ^ (2 * c) ≡ M * 2 ^ (2 * j) * (D * D)
      squares U D e =
          omega (arith, ap (λ (z : ℕ). M * (z * z)) e, ap (λ (z : ℕ). M * (U * U) * z) (double c), ap (λ (z : ℕ). M * z * (D * D)) (double j))

pub by_nearest : (f : Format) (x r : Float) → Nearest f x r → IsRoot f x r
by_nearest f x r n = go x (positive_of_value x _ _ n.x_is (mul-pos (lt_of_lt_of_le (pow_pos _) n.M-from) (mul-pos (up_pos n.k) (up_pos n.k)))) n
  where
    go : (v : Float) → T (positive v) → Nearest f v r → IsRoot f v r
    go nan t n = absurd t
    go (inf s) t n = absurd t
    go (fin true m e) t n = absurd t
    go (fin false zero e) t n = absurd t
    go (fin false (suc m) e) t n = n

-- ---- the other numbers

-- above 0, and its pattern not below the infinity's
pub at_infinity : (f : Format) (x : Float) → T (fits f x) → above x ≡ true → ones f * hid f ≤ to_bits f x → IsRoot f x x
at_infinity f nan h a b = absurd (false≢true a)
at_infinity f (inf true) h a b = absurd (false≢true a)
at_infinity f (inf false) h a b = refl
at_infinity f (fin true m e) h a b = absurd (false≢true a)
at_infinity f (fin false zero e) h a b = refl
at_infinity f (fin false (suc m) e) h a b = absurd (not-le_of_lt (finite_below f m e h) b)

pub at_zero : (f : Format) (x : Float) → is_zero x ≡ true → IsRoot f x x
at_zero f nan z = absurd (false≢true z)
at_zero f (inf s) z = absurd (false≢true z)
at_zero f (fin s zero e) z = refl
at_zero f (fin s (suc m) e) z = absurd (false≢true z)

pub at_others : (f : Format) (x r : Float) → above x ≡ false → is_zero x ≡ false → r ≡ nan → IsRoot f x r
at_others f nan r a z h = h
at_others f (inf true) r a z h = h
at_others f (inf false) r a z h = absurd (true≢false a)
at_others f (fin s zero e) r a z h = absurd (true≢false z)
at_others f (fin true (suc m) e) r a z h = h
at_others f (fin false (suc m) e) r a z h = absurd (not-le_of_lt (zero-lt-suc m) (ltb-false 0 (suc m) a))
