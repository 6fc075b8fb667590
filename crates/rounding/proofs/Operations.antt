-- The four operations: a result is the float nearest to the exact one, by the definition of each.
use mathlib.Core.Path.{◌≡◌, refl, ap}
use mathlib.Core.Bool.{Bool, true, false, not, cond}
use Prim.Native.Nat.{ℕ, zero, suc, ◌+◌, ◌-◌, ◌*◌, ◌^◌, ◌≤◌, ◌<◌}
use native.Mathlib.Nat.{mul-le-mul_right, le_of_mul-le-mul_right, mul-pos, mul-sub, le_of_lt, zero-lt-suc}
use native.Mathlib.Omega.{arith}
use lib.Dec.{T, ltb, eqb, ltb→lt, nltb→le, eqb-suc-zero}
use lib.Pow.{pow_pos}
use lib.Ieee.{Float, nan, inf, fin, Format, low, up, down, unlike, round, sum, neg, add, sub, mul, div}
use lib.Ieee.Fits.{down_pos, up_pos}
use lib.Ieee.Exact.{HasValue}
use lib.Ieee.Positive.{first_pos}
use lib.Ieee.Scale.{finite, round_same}
use Rattle.float.specs.Ops.{ops}
use Rattle.float.proofs.Finite.{never_finite}
use Rattle.rounding.specs.Exact.{Num, Equal, ◌⊞◌, ◌⊟◌, ◌⊠◌, signed, mag, sign, value, Number}
use Rattle.rounding.specs.Error.{NearestTo}
use Rattle.rounding.proofs.Num.{product_signed}
use Rattle.rounding.proofs.Value.{known, opposite_value, opposite_number}

-- x = a / l over e, brought to the denominator e * d
widen : (x a e l d : ℕ) → x * l ≡ a * e → x * d * l ≡ a * (e * d)
widen x a e l d h = omega (arith, ap (λ (z : ℕ). z * d) h)

minus_mul : (x y k a b l : ℕ) → x * k ≡ a * l → y * k ≡ b * l → (x - y) * k ≡ (a - b) * l
minus_mul x y k a b l p q = omega (arith, mul-sub k x y, mul-sub l a b)

-- ±X / c + ±Y / c, where these are ±a and ±b units
module _ (f : Format) (X Y c a b : ℕ) (c+ : 0 < c) (ex : X * 2 ^ low f ≡ a * c) (ey : Y * 2 ^ low f ≡ b * c) where
  a≤b : X ≤ Y → a ≤ b
  a≤b h = le_of_mul-le-mul_right (omega (arith, mul-le-mul_right (2 ^ low f) h)) c+

  b≤a : Y ≤ X → b ≤ a
  b≤a h = le_of_mul-le-mul_right (omega (arith, mul-le-mul_right (2 ^ low f) h)) c+

  made : (s : Bool) (num w : ℕ) (y : Num) → num * 2 ^ low f ≡ w * c → Equal y (signed s w) → NearestTo f 1 (round f s num c) y
  made s num w y e d = record {
    s = s;
    w = w;
    some = omega arith;
    is = round_same f s num c w (1 * 2 ^ low f) c+ (omega (arith, pow_pos (low f))) (omega (arith, e));
    exact = d;
  }

  sum_nearest : (s t : Bool) → NearestTo f 1 (sum f s X t Y c) (signed s a ⊞ signed t b)
  unfolding sum
  sum_nearest false false = made false (X + Y) (a + b) _ (omega arith) (omega arith)
  sum_nearest true true = made true (X + Y) (a + b) _ (omega arith) (omega arith)
  sum_nearest false true = go (ltb X Y) (ltb→lt X Y) (nltb→le X Y)
    where
      go : (l : Bool) → (T l → X < Y) → (T (not l) → Y ≤ X)
          → NearestTo f 1 (cond l (round f true (Y - X) c) (round f false (X - Y) c)) (signed false a ⊞ signed true b)
      go true h k = let i : a ≤ b = a≤b (le_of_lt (h tt)) in made true (Y - X) (b - a) _ (minus_mul Y X _ b a c ey ex) (omega arith)
      go false h k = let i : b ≤ a = b≤a (k tt) in made false (X - Y) (a - b) _ (minus_mul X Y _ a b c ex ey) (omega arith)
  sum_nearest true false = go (ltb X Y) (ltb Y X) (ltb→lt X Y) (nltb→le X Y) (nltb→le Y X)
    where
      go : (l r : Bool) → (T l → X < Y) → (T (not l) → Y ≤ X) → (T (not r) → X ≤ Y)
          → NearestTo f 1 (cond l (round f false (Y - X) c) (round f r (X - Y) c)) (signed true a ⊞ signed false b)
      go true r h k v = let i : a ≤ b = a≤b (le_of_lt (h tt)) in made false (Y - X) (b - a) _ (minus_mul Y X _ b a c ey ex) (omega arith)
      go false true h k v = let i : b ≤ a = b≤a (k tt) in made true (X - Y) (a - b) _ (minus_mul X Y _ a b c ex ey) (omega arith)
      go false false h k v =
          let i : b ≤ a = b≤a (k tt) in
          let j : a ≤ b = a≤b (v tt) in
          made false (X - Y) (a - b) _ (minus_mul X Y _ a b c ex ey) (omega arith)

module _ (f : Format) where
  open ops f use {◌⊕◌, ◌⊖◌, ◌⊗◌, ◌⊘◌}

  infixl 75 ◌⊕◌ ◌⊖◌
  infixl 80 ◌⊗◌ ◌⊘◌
  abbrev L : ℕ
  L = 2 ^ low f

  L+ : 0 < L
  L+ = pow_pos (low f)

  -- a number over an infinity is zero: here the divisor has to be known finite, and isn't zero then
  pub div_finite : (x y : Float) → Number f y → T (finite (x ⊘ y)) → T (finite x) × (0 < mag f y)
  unfolding div
  div_finite nan y n t = absurd t
  div_finite (inf s) nan n t = absurd t
  div_finite (inf s) (inf u) n t = absurd t
  div_finite (inf s) (fin u m d) n t = absurd t
  div_finite (fin s m e) nan n t = absurd t
  div_finite (fin s m e) (inf u) n t = absurd n.fine
  div_finite (fin s m e) (fin u zero d) n t = absurd (never_finite (eqb m 0) (unlike s u) t)
  div_finite (fin s m e) (fin u (suc k) d) n t =
      (tt, first_pos (mag f (fin u (suc k) d)) (down d) (rw (known f (fin u (suc k) d) n).has.1 at (mul-pos (mul-pos (zero-lt-suc k) (up_pos d)) L+)))

  -- ---- the operations at two fractions ±a / 2 ^ low and ±b / 2 ^ low
  add_of : (x y : Float) (s t : Bool) (a b : ℕ) → HasValue x s a L → HasValue y t b L → NearestTo f 1 (x ⊕ y) (signed s a ⊞ signed t b)
  unfolding add
  add_of nan y s t a b h k = absurd h
  add_of (inf v) y s t a b h k = absurd h
  add_of (fin v m e) nan s t a b h k = absurd k
  add_of (fin v m e) (inf w) s t a b h k = absurd k
  add_of (fin v m e) (fin w n d) s t a b h k =
      rw (h.0, k.0) (sum_nearest f (m * up e * down d) (n * up d * down e) (down e * down d) a b (mul-pos (down_pos e) (down_pos d))
      (widen (m * up e) a (down e) L (down d) h.1) (omega (arith, widen (n * up d) b (down d) L (down e) k.1)) s t)

  mul_of : (x y : Float) (s t : Bool) (a b : ℕ) → HasValue x s a L → HasValue y t b L → x ⊗ y ≡ round f (unlike s t) (a * b) (L * L)
  unfolding mul
  mul_of nan y s t a b h k = absurd h
  mul_of (inf v) y s t a b h k = absurd h
  mul_of (fin v m e) nan s t a b h k = absurd k
  mul_of (fin v m e) (inf w) s t a b h k = absurd k
  mul_of (fin v m e) (fin w n d) s t a b h k =
      rw (h.0, k.0) (round_same f (unlike s t) (m * up e * (n * up d)) (down e * down d) (a * b) (L * L)
      (mul-pos (down_pos e) (down_pos d)) (mul-pos L+ L+) (go (m * up e) (n * up d) (down e) (down d) L h.1 k.1))
    where
      go : (x y e d l : ℕ) → x * l ≡ a * e → y * l ≡ b * d → x * y * (l * l) ≡ a * b * (e * d)
      go x y e d l h k = omega (arith, ap (λ (z : ℕ). z * (y * l)) h, ap (λ (z : ℕ). a * e * z) k)

  div_of : (x y : Float) (s t : Bool) (a b : ℕ) → 0 < b → HasValue x s a L → HasValue y t b L → x ⊘ y ≡ round f (unlike s t) (a * L) (b * L)
  unfolding div
  div_of nan y s t a b b+ h k = absurd h
  div_of (inf v) y s t a b b+ h k = absurd h
  div_of (fin v m e) nan s t a b b+ h k = absurd k
  div_of (fin v m e) (inf w) s t a b b+ h k = absurd k
  div_of (fin v m e) (fin w zero d) s t a b b+ h k = absurd (omega (arith, k.1, mul-pos b+ (down_pos d)))
  div_of (fin v m e) (fin w (suc n) d) s t a b b+ h k =
      rw (eqb-suc-zero n, h.0, k.0) (round_same f (unlike s t) (m * up e * down d) (suc n * up d * down e) (a * L) (b * L)
      (mul-pos (mul-pos (zero-lt-suc n) (up_pos d)) (down_pos e)) (mul-pos b+ L+) (go (m * up e) (suc n * up d) (down e) (down d) L h.1 k.1))
    where
      go : (x y e d l : ℕ) → x * l ≡ a * e → y * l ≡ b * d → x * d * (b * l) ≡ a * l * (y * e)
      go x y e d l h k = omega (arith, ap (λ (z : ℕ). z * (d * b)) h, ap (λ (z : ℕ). a * e * z) k)

  -- ---- THE laws of nearest results. A product is in units of units; a quotient x / y is x 2 ^ low over y units, with the sign of y on top
  module _ (x y : Float) (p : Number f x) (q : Number f y) where
    pub add_nearest : NearestTo f 1 (x ⊕ y) (value f x ⊞ value f y)
    unfolding value
    add_nearest = add_of x y (sign x) (sign y) (mag f x) (mag f y) (known f x p).has (known f y q).has

    pub mul_nearest : NearestTo f (2 ^ low f) (x ⊗ y) (value f x ⊠ value f y)
    unfolding value
    mul_nearest = record {
      s = unlike (sign x) (sign y);
      w = mag f x * mag f y;
      some = L+;
      is = mul_of x y (sign x) (sign y) (mag f x) (mag f y) (known f x p).has (known f y q).has;
      exact = product_signed _ _ (sign x) (sign y) (mag f x) (mag f y) refl refl;
    }

    pub div_nearest : 0 < mag f y → NearestTo f (mag f y) (x ⊘ y) (value f x ⊠ signed (sign y) (2 ^ low f))
    unfolding value
    div_nearest y+ = record {
      s = unlike (sign x) (sign y);
      w = mag f x * L;
      some = y+;
      is = div_of x y (sign x) (sign y) (mag f x) (mag f y) y+ (known f x p).has (known f y q).has;
      exact = product_signed _ _ (sign x) (sign y) (mag f x) L refl refl;
    }

  pub sub_nearest : (x y : Float) → Number f x → Number f y → NearestTo f 1 (x ⊖ y) (value f x ⊟ value f y)
  unfolding sub
  sub_nearest x y p q = rw (opposite_value f y) at (add_nearest x (neg y) p (opposite_number f y q))
