-- A float's exact value in units of 2 ^ -low: any way to know it gives `value`, each number of a format has one, and `round` gives the value that `grid` says.
use mathlib.Core.Path.{◌≡◌, refl, sym, ap, ◌∙◌}
use mathlib.Core.Bool.{Bool, true, false, cond}
use mathlib.Core.Logic.{◌↔◌}
use Prim.Native.Nat.{ℕ, zero, suc, ◌+◌, ◌*◌, ◌^◌, ◌<◌}
use native.Mathlib.Nat.{mul-lt-mul_of_pos_right, lt_of_mul-lt-mul_right, mul-div_cancel, mul-pos, le_refl, not-suc-le-zero}
use native.Mathlib.Omega.{arith}
use lib.IntN.{ℤ, pos}
use lib.Dec.{T, ltb}
use lib.Pow.{pow-add, pow_pos}
use lib.Ieee.{Float, nan, inf, fin, Format, prec, emax, low, up, down, odd, units, round, neg, lt}
use lib.Ieee.Fits.{down_pos, round_is, neg-fits}
use lib.Ieee.Exact.{HasValue, odd_sign, round_exact}
use lib.Ieee.Order.{drop, kept}
use lib.Ieee.Positive.{first_pos}
use lib.Ieee.Scale.{grid, overflow, finite}
use borrow.Author.Tests.{ltb-true, lt-ltb}
use Rattle.float.specs.Ops.{ops}
use Rattle.float.proofs.Bits.{zero_is}
use Rattle.float.proofs.Value.{rescale, written, place}
use Rattle.rounding.specs.Exact.{Equal, signed, size_of, Negative, OwnSize, opposite, mag, sign, value, Number}
use Rattle.rounding.specs.Dyadic.{Held}
use Rattle.rounding.proofs.Num.{size_signed}

-- ---- from the kit's `HasValue`
pub value_finite : (x : Float) (s : Bool) (a c : ℕ) → HasValue x s a c → T (finite x)
value_finite nan s a c h = absurd h
value_finite (inf t) s a c h = absurd h
value_finite (fin t m e) s a c h = tt

pub value_is : (f : Format) (x : Float) (s : Bool) (a : ℕ) → HasValue x s a (2 ^ low f) → value f x ≡ signed s a
unfolding value mag sign
value_is f nan s a h = absurd h
value_is f (inf t) s a h = absurd h
value_is f (fin t m e) s a h = rw (h.0, h.1, mul-div_cancel a (down_pos e))

pub size_value : (f : Format) (x : Float) → size_of (value f x) ≡ mag f x
unfolding value
size_value f x = size_signed (value f x) (sign x) (mag f x) refl

pub own_value : (f : Format) (x : Float) → sign x ≡ false → OwnSize (value f x)
unfolding value
own_value f x e = rw (size_value f x, e)

-- a value above zero
pub positive_value : (f : Format) (x : Float) (n : ℕ) → 0 < n → Equal (value f x) (signed false n) → (sign x ≡ false) × (mag f x ≡ n)
unfolding value
positive_value f x n h = go (sign x) (mag f x)
  where
    go : (s : Bool) (a : ℕ) → Equal (signed s a) (signed false n) → (s ≡ false) × (a ≡ n)
    go false a e = (refl, omega arith)
    go true a e = absurd (omega arith)

-- ---- a number of a format: its value is q * 2 ^ j units, q of at most prec digits
pub record Known (f : Format) (x : Float) : Type 0 where
  pub held : Held f (mag f x)
  pub has : HasValue x (sign x) (mag f x) (2 ^ low f)

known_as : (f : Format) (s : Bool) (m : ℕ) (e : ℤ) (q j : ℕ) → q < 2 ^ prec f → m * up e * 2 ^ low f ≡ q * 2 ^ j * down e → m * up e < 2 ^ suc (emax f) * down e
    → Known f (fin s m e)
unfolding mag sign
known_as f s m e q j few h u =
    let is : mag f (fin s m e) ≡ q * 2 ^ j = rw (h, mul-div_cancel (q * 2 ^ j) (down_pos e)) in
    let b : q * 2 ^ j * down e < 2 ^ low f * 2 ^ suc (emax f) * down e = go (m * up e) (2 ^ suc (emax f)) (2 ^ low f) (down e) (q * 2 ^ j) h (pow_pos (low f)) u in
    let l : q * 2 ^ j < overflow f = rw (pow-add 2 (low f) (suc (emax f))) (lt_of_mul-lt-mul_right (down e) b) in
    record { held = record { q = q; j = j; few = few; is = is; under = rw is l }; has = (refl, rw is h) }
  where
    go : (x B L d a : ℕ) → x * L ≡ a * d → 0 < L → x < B * d → a * d < L * B * d
    go x B L d a h L+ u = omega (arith, mul-lt-mul_of_pos_right u L+)

pub known : (f : Format) (x : Float) → Number f x → Known f x
known f nan n = absurd n.fine
known f (inf s) n = absurd n.fine
known f (fin s zero e) n = known_as f s 0 e 0 0 (pow_pos (prec f)) (omega arith) (omega (arith, mul-pos (pow_pos (suc (emax f))) (down_pos e)))
known f (fin s (suc m) e) n =
    let w = written f s m e n.fit in
    let p = place (low f) (low f) e w.fine (le_refl (low f)) in
    known_as f s (suc m) e (suc m) p.0 w.few (p.2 (suc m)) w.under

pub opposite_value : (f : Format) (x : Float) → value f (neg x) ≡ opposite (value f x)
unfolding value mag sign neg
opposite_value f nan = refl
opposite_value f (inf true) = refl
opposite_value f (inf false) = refl
opposite_value f (fin true m e) = refl
opposite_value f (fin false m e) = refl

pub opposite_number : (f : Format) (x : Float) → Number f x → Number f (neg x)
unfolding neg
opposite_number f nan n = absurd n.fine
opposite_number f (inf s) n = absurd n.fine
opposite_number f (fin s m e) n = record { fit = neg-fits f (fin s m e) n.fit; fine = tt }

-- a number is below zero exactly where its value is
pub below_zero : (f : Format) (x : Float) → Number f x → lt x (ops f).zero ≡ true ↔ Negative (value f x)
unfolding lt value sign
below_zero f x n = rw (zero_is f) (go x (known f x n).has)
  where
    some : (m e d l w : ℕ) → 0 < d → 0 < l → m * e * l ≡ w * d → 0 < m * e ↔ 0 < w
    some m e d l w d+ l+ h = (
      (λ p. first_pos w d (rw h at (mul-pos p l+))),
      λ p. first_pos (m * e) l (rw (← h) at (mul-pos p d+)),
    )

    go : (x : Float) → HasValue x (sign x) (mag f x) (2 ^ low f) → lt x (fin false 0 (pos 0)) ≡ true ↔ Negative (value f x)
    go nan h = absurd h
    go (inf s) h = absurd h
    go (fin true m e) h =
        let iff = some m (up e) (down e) (2 ^ low f) (mag f (fin true m e)) (down_pos e) (pow_pos (low f)) h.1 in (
          (λ t. iff.0 (omega (arith, ltb-true 0 (m * up e * down (pos 0) + 0 * up (pos 0) * down e) t))),
          λ p. lt-ltb 0 (m * up e * down (pos 0) + 0 * up (pos 0) * down e) (omega (arith, iff.1 p)),
        )
    go (fin false m e) h = ((λ t. absurd (omega (arith, ltb-true (m * up e * down (pos 0)) (0 * up (pos 0) * down e) t))), λ p. absurd (not-suc-le-zero p))

-- ---- what `round` gives: the grid's value, if it is finite; the fraction's own, if the format holds it
units_value : (f : Format) (s : Bool) (q k : ℕ) → T (finite (units f s q k)) → HasValue (units f s q k) s (q * 2 ^ k) (2 ^ low f)
unfolding units
units_value f s q k = go (ltb (q * 2 ^ k) (overflow f))
  where
    go : (b : Bool) → T (finite (cond b (odd (suc (prec f)) s q k (low f)) (inf s)))
        → HasValue (cond b (odd (suc (prec f)) s q k (low f)) (inf s)) s (q * 2 ^ k) (2 ^ low f)
    go true t = odd_sign (suc (prec f)) s q k (low f)
    go false t = absurd t

pub round_value : (f : Format) (s : Bool) (a c : ℕ) → T (finite (round f s a c)) → HasValue (round f s a c) s (grid f a c) (2 ^ low f)
round_value f s a c t = rw (round_is f s a c) (units_value f s (kept (prec f) (a * 2 ^ low f) c) (drop (prec f) (a * 2 ^ low f) c) (rw (round_is f s a c) at t))

pub round_held : (f : Format) (s : Bool) (a c w : ℕ) → 0 < c → a * 2 ^ low f ≡ w * c → Held f w → HasValue (round f s a c) s w (2 ^ low f)
round_held f s a c w c+ e h =
    rescale (round f s a c) s a c w (2 ^ low f) c+ (sym e)
    (round_exact f s a c h.q h.j c+ h.few (rw h.is at h.under) (e ∙ ap (λ (z : ℕ). z * c) h.is))
