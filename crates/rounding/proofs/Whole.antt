-- What the tests of whole numbers say, and the constants of the sources: each is a whole multiple of a power of two.
use mathlib.Core.Path.{◌≡◌, refl, sym, ap, ◌∙◌}
use mathlib.Core.Bool.{Bool, true, false, ◌&&◌}
use mathlib.Core.Logic.{◌↔◌}
use Prim.Native.Nat.{ℕ, ◌+◌, ◌-◌, ◌*◌, ◌/◌, ◌%◌, ◌^◌, ◌≤◌, ◌<◌}
use native.Mathlib.Nat.{div-add-mod', le_of_mul-le-mul_right, le_trans, le_of_eq, le_refl, lt_of_le_of_lt, lt_of_not-le, not-le_of_lt, mul_assoc, mul-mod_right}
use native.Mathlib.Omega.{arith}
use lib.Dec.{eqb, lit≤}
use lib.Pow.{pow-add, pow_pos, pow_mono, shl_lt}
use lib.Ieee.{Float, Format, binary32, binary64, prec, low, fits, of_bits}
use lib.Ieee.Fits.{two}
use lib.Ieee.Bits.{is_true}
use lib.Ieee.Scale.{finite}
use borrow.Author.Tests.{leb-true, le-leb, eqb-true, eq-eqb}
use Rattle.float.specs.Ops.{ops}
use Rattle.float.proofs.Scan.{both}
use Rattle.rounding.specs.Exact.{Num, Equal, scale, size_of, signed, mag, sign, value, Number}
use Rattle.rounding.specs.Dyadic.{Dyad}
use Rattle.rounding.specs.Whole.{unit, is_number, is_whole_up_to, is_natural}
use Rattle.rounding.proofs.Num.{size_signed, size_equal, size_scale}
use Rattle.rounding.proofs.Value.{known, size_value}
use Rattle.rounding.proofs.Sums.{zero_number, zero_value}

pub number_iff : (f : Format) (x : Float) → is_number f x ≡ true ↔ Number f x
number_iff f x = (
  (λ e. let t = both (fits f x) _ e in record { fit = rw t.0 tt; fine = rw t.1 tt }),
  (λ n. rw (is_true (fits f x) n.fit, is_true (finite x) n.fine)),
)

-- a whole number counted in ones
abbrev pub whole : Format → Float → Num
whole f x = signed (sign x) (mag f x / unit f)

abbrev pub Coordinate : Format → ℕ → Float → Type 0
Coordinate f B x = Dyad f x (low f) (whole f x) B

signed_multiple : (s : Bool) (m q l : ℕ) → m ≡ q * l → Equal (signed s m) (scale l (signed s q))
signed_multiple true m q l e = omega arith
signed_multiple false m q l e = omega arith

pub coordinate : (f : Format) (B : ℕ) (x : Float) → is_whole_up_to f B x ≡ true → Coordinate f B x
unfolding is_whole_up_to value
coordinate f B x e =
    let t = both (is_number f x && eqb (mag f x % unit f) 0) _ e in
    let n = both (is_number f x) _ t.0 in
    let q = mag f x / unit f in
    let is : mag f x ≡ q * unit f = omega (arith, div-add-mod' (mag f x) (unit f), eqb-true (mag f x % unit f) 0 n.1) in
    record {
      number = (number_iff f x).0 n.0;
      is = signed_multiple (sign x) (mag f x) q (unit f) is;
      small = rw (size_signed (whole f x) (sign x) q refl) (le_of_mul-le-mul_right (le_trans (le_of_eq (sym is)) (leb-true (mag f x) (B * unit f) t.1)) (pow_pos (low f)));
    }

-- and back
pub multiple_whole : (f : Format) (B : ℕ) (x : Float) (n : Num) → Number f x → Equal (value f x) (scale (unit f) n) → size_of (value f x) ≤ B * unit f → is_whole_up_to f B x ≡ true
unfolding is_whole_up_to
multiple_whole f B x n number e h =
    let is : mag f x ≡ unit f * size_of n = sym (size_value f x) ∙ size_equal (value f x) _ e ∙ size_scale (unit f) n in
    rw ((number_iff f x).1 number, eq-eqb (mag f x % unit f) 0 (rw is (mul-mod_right (unit f) (size_of n))), le-leb _ _ (rw size_value at h))

-- from 2 ^ (prec - 1) on every number of a format is whole
pub large_whole : (f : Format) (x : Float) → Number f x → 2 ^ (prec f - 1) * unit f ≤ size_of (value f x) → (n : Num) × Equal (value f x) (scale (unit f) n)
unfolding value
large_whole f x number h =
    let k = (known f x number).held in
    let strict : 2 ^ (prec f - 1 + low f) < 2 ^ (prec f + k.j) = lt_of_le_of_lt (rw (pow-add 2 (prec f - 1) (low f), ← k.is, ← size_value f x) h) (shl_lt (prec f) k.j k.few) in
    let above : low f ≤ k.j = omega (arith, two f, lt_of_not-le (λ (g : prec f + k.j ≤ prec f - 1 + low f). not-le_of_lt strict (pow_mono g))) in
    let split : k.j ≡ k.j - low f + low f = omega arith in
    let q = k.q * 2 ^ (k.j - low f) in
    (signed (sign x) q, signed_multiple (sign x) (mag f x) q (unit f) (k.is ∙ ap (λ (z : ℕ). k.q * z) (ap (λ (z : ℕ). 2 ^ z) split ∙ pow-add 2 (k.j - low f) (low f)) ∙ sym (mul_assoc _ _ _)))

pub natural : (f : Format) (n : ℕ) (x : Float) → is_natural f n x ≡ true → Dyad f x (low f) (signed false n) n
unfolding is_natural
natural f n x e =
    let t = both (is_number f x && eqb (value f x).plus (n * unit f)) _ e in
    let p = both (is_number f x) _ t.0 in
    record {
      number = (number_iff f x).0 p.0;
      is = omega (arith, eqb-true (value f x).plus (n * unit f) p.1, eqb-true (value f x).minus 0 t.1);
      small = omega arith;
    }

-- ---- the constants
pub zero_dyad : (f : Format) → Dyad f (ops f).zero (low f) (signed false 0) 0
zero_dyad f = record { number = zero_number f; is = rw (zero_value f) (omega arith); small = le_refl 0 }

pub half_dyad : (f : Format) → Dyad f (ops f).half (low f - 1) (signed false 1) 1
unfolding of_bits fits value
half_dyad binary32 = record { number = record { fit = tt; fine = tt }; is = refl; small = lit≤ tt }
half_dyad binary64 = record { number = record { fit = tt; fine = tt }; is = refl; small = lit≤ tt }

pub one_dyad : (f : Format) → Dyad f (ops f).one (low f) (signed false 1) 1
unfolding of_bits fits value
one_dyad binary32 = record { number = record { fit = tt; fine = tt }; is = refl; small = lit≤ tt }
one_dyad binary64 = record { number = record { fit = tt; fine = tt }; is = refl; small = lit≤ tt }

pub two_dyad : (f : Format) → Dyad f (ops f).two (low f) (signed false 2) 2
unfolding of_bits fits value
two_dyad binary32 = record { number = record { fit = tt; fine = tt }; is = refl; small = lit≤ tt }
two_dyad binary64 = record { number = record { fit = tt; fine = tt }; is = refl; small = lit≤ tt }

pub three_dyad : (f : Format) → Dyad f (ops f).three (low f) (signed false 3) 3
unfolding of_bits fits value
three_dyad binary32 = record { number = record { fit = tt; fine = tt }; is = refl; small = lit≤ tt }
three_dyad binary64 = record { number = record { fit = tt; fine = tt }; is = refl; small = lit≤ tt }

pub twelve_dyad : (f : Format) → Dyad f (ops f).twelve (low f) (signed false 12) 12
unfolding of_bits fits value
twelve_dyad binary32 = record { number = record { fit = tt; fine = tt }; is = refl; small = lit≤ tt }
twelve_dyad binary64 = record { number = record { fit = tt; fine = tt }; is = refl; small = lit≤ tt }
