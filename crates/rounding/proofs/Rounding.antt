-- One operation: a finite result is off by at most 1 / 2 ^ prec of the exact one (products and quotients: in the normal range), and where the
-- format holds the exact result it is that. Both follow from the result being the nearest float.
use mathlib.Core.Path.{◌≡◌, sym, ap, ◌∙◌}
use mathlib.Core.Bool.{Bool, true, false}
use mathlib.Core.Logic.{inl, inr, ◌⊎◌}
use Prim.Native.Nat.{ℕ, ◌+◌, ◌-◌, ◌*◌, ◌^◌, ◌≤◌, ◌<◌}
use native.Mathlib.Nat.{mul-le-mul_right, le_of_mul-le-mul_right, mul-pos, mul-one, le_trans, lt_of_lt_of_le, lt_of_not-le, eq-zero-or-pos}
use native.Mathlib.Decide.{dec_le}
use native.Mathlib.Omega.{arith}
use lib.Dec.{T}
use lib.Pow.{pow_pos, pow_mono}
use lib.Ieee.{Float, Format, prec, low, fits}
use lib.Ieee.Fits.{reach}
use lib.Ieee.Exact.{HasValue}
use lib.Ieee.Scale.{grid, finite, normal_of_fraction}
use Rattle.float.specs.Ops.{ops}
use Rattle.float.proofs.Finite.{add_finite, sub_finite, mul_finite}
use Rattle.rounding.specs.Exact.{Num, Equal, ◌⊞◌, ◌⊟◌, ◌⊠◌, scale, size_of, signed, mag, sign, value, Number}
use Rattle.rounding.specs.Error.{Within, NearestTo, Rounded, Normal}
use Rattle.rounding.specs.Dyadic.{Held}
use Rattle.rounding.proofs.Num.{size_signed, size_equal, size_times}
use Rattle.rounding.proofs.Nearest.{Off, grid_near}
use Rattle.rounding.proofs.Value.{known, size_value, value_is, value_finite, round_value, round_held}
use Rattle.rounding.proofs.Operations.{div_finite, add_nearest, sub_nearest, mul_nearest, div_nearest}

-- any count below 2 ^ prec is held
held_few : (f : Format) (w : ℕ) → w < 2 ^ prec f → Held f w
held_few f w h = record { q = w; j = 0; few = h; is = sym (mul-one w); under = lt_of_lt_of_le h (pow_mono (le_trans (reach f) (omega arith))) }

within_signed : (P K g w : ℕ) (s : Bool) (y : Num) → Equal y (signed s w) → Off P w (g * K) w → Within P 1 K (signed s g) y (size_of y)
within_signed P K g w s y e o = record { within = rw (size_signed y s w e) (go s (ap (λ (z : ℕ). z * P) e)) }
  where
    go : (s : Bool) → (y.plus + (signed s w).minus) * P ≡ ((signed s w).plus + y.minus) * P → size_of (scale K (signed s g) ⊟ y) * P ≤ 1 * w
    go false d = size_times _ P (1 * w) (omega (arith, o.over)) (omega (arith, o.under))
    go true d = size_times _ P (1 * w) (omega (arith, o.under)) (omega (arith, o.over))

module _ (f : Format) (K : ℕ) (z : Float) (y : Num) (n : NearestTo f K z y) where
  L+ : 0 < 2 ^ low f
  L+ = pow_pos (low f)

  is_size : size_of y ≡ n.w
  is_size = size_signed y n.s n.w n.exact

  has_held : (w : ℕ) → n.w ≡ w * K → Held f w → HasValue z n.s w (2 ^ low f)
  has_held w e h = rw n.is (round_held f n.s n.w (K * 2 ^ low f) w (mul-pos n.some L+) (omega (arith, ap (λ (x : ℕ). x * 2 ^ low f) e)) h)

  rounded_has : (g : ℕ) → HasValue z n.s g (2 ^ low f) → Off (2 ^ prec f) n.w (g * K) n.w → Rounded f K z y
  rounded_has g v o = rw (value_is f z n.s g v) (within_signed (2 ^ prec f) K g n.w n.s y n.exact o)

  rounded_held : (w : ℕ) → n.w ≡ w * K → Held f w → Rounded f K z y
  rounded_held w e h = rounded_has w (has_held w e h) (rw e (record { over = omega arith; under = omega arith }))

  rounded_normal : T (finite z) → 2 ^ (prec f - 1) * K ≤ n.w → Rounded f K z y
  rounded_normal t h =
      let c = K * 2 ^ low f in
      let c+ : 0 < c = mul-pos n.some L+ in
      let g = grid f n.w c in
      rounded_has g (rw n.is (round_value f n.s n.w c (rw n.is at t)))
      (cancel g (grid_near f n.w c c+ (normal_of_fraction f n.w c c+ (omega (arith, mul-le-mul_right (2 ^ low f) h)))))
    where
      cancel : (g : ℕ) → Off (2 ^ prec f) (n.w * 2 ^ low f) (g * (K * 2 ^ low f)) (n.w * 2 ^ low f) → Off (2 ^ prec f) n.w (g * K) n.w
      cancel g o = record { over = le_of_mul-le-mul_right (omega (arith, o.over)) L+; under = le_of_mul-le-mul_right (omega (arith, o.under)) L+ }

  nearest_rounded : T (finite z) → Normal f K y → Rounded f K z y
  nearest_rounded t h = go (eq-zero-or-pos n.w)
    where
      go : (n.w ≡ 0) ⊎ (0 < n.w) → Rounded f K z y
      go (inl e) = rounded_held 0 (omega arith) (held_few f 0 (pow_pos (prec f)))
      go (inr p) = rounded_normal t (rw is_size at (h (rw is_size p)))

  -- ---- THE law of exactness: where y / K is a value of the format, the operation gives it
  pub nearest_exact : (w : ℕ) → size_of y ≡ w * K → Held f w → T (finite z) × Equal (scale K (value f z)) y
  nearest_exact w e h =
      let d : n.w ≡ w * K = sym is_size ∙ e in
      let v : HasValue z n.s w (2 ^ low f) = has_held w d h in
      (value_finite z n.s w (2 ^ low f) v, rw (value_is f z n.s w v) (go n.s n.w n.exact d))
    where
      go : (s : Bool) (x : ℕ) → Equal y (signed s x) → x ≡ w * K → Equal (scale K (signed s w)) y
      go false x d e = omega arith
      go true x d e = omega arith

-- a whole number of units is rounded so in any range
whole_rounded : (f : Format) (z : Float) (y : Num) → NearestTo f 1 z y → T (finite z) → Rounded f 1 z y
whole_rounded f z y n t = go (dec_le (2 ^ (prec f - 1)) n.w)
  where
    go : Dec (2 ^ (prec f - 1) ≤ n.w) → Rounded f 1 z y
    go (yes h) = rounded_normal f 1 z y n t (omega arith)
    go (no h) = rounded_held f 1 z y n n.w (omega arith) (held_few f n.w (lt_of_lt_of_le (lt_of_not-le h) (pow_mono (omega arith))))

-- ---- THE laws of one rounded operation
module _ (f : Format) (x y : Float) (p : T (fits f x)) where
  open ops f use {◌⊕◌, ◌⊖◌, ◌⊗◌, ◌⊘◌}

  infixl 75 ◌⊕◌ ◌⊖◌
  infixl 80 ◌⊗◌ ◌⊘◌
  pub add_rounded : T (fits f y) → T (finite (x ⊕ y)) → Rounded f 1 (x ⊕ y) (value f x ⊞ value f y)
  add_rounded q t = let h = add_finite f x y t in whole_rounded f _ _ (add_nearest f x y (record { fit = p; fine = h.0 }) (record { fit = q; fine = h.1 })) t

  pub sub_rounded : T (fits f y) → T (finite (x ⊖ y)) → Rounded f 1 (x ⊖ y) (value f x ⊟ value f y)
  sub_rounded q t = let h = sub_finite f x y t in whole_rounded f _ _ (sub_nearest f x y (record { fit = p; fine = h.0 }) (record { fit = q; fine = h.1 })) t

  pub mul_rounded : T (fits f y) → T (finite (x ⊗ y)) → Normal f (2 ^ low f) (value f x ⊠ value f y) → Rounded f (2 ^ low f) (x ⊗ y) (value f x ⊠ value f y)
  mul_rounded q t = let h = mul_finite f x y t in nearest_rounded f _ _ _ (mul_nearest f x y (record { fit = p; fine = h.0 }) (record { fit = q; fine = h.1 })) t

  pub div_rounded : Number f y → T (finite (x ⊘ y)) → Normal f (mag f y) (value f x ⊠ signed (sign y) (2 ^ low f))
      → Rounded f (mag f y) (x ⊘ y) (value f x ⊠ signed (sign y) (2 ^ low f))
  div_rounded n t = let h = div_finite f x y n t in nearest_rounded f _ _ _ (div_nearest f x y (record { fit = p; fine = h.0 }) n h.1) t

-- ---- THE law of adding to zero: nothing changes, in any range
module _ (f : Format) (z x : Float) (p : Number f z) (q : Number f x) (e : size_of (value f z) ≡ 0) where
  open ops f use {◌⊕◌}

  infixl 75 ◌⊕◌
  pub zero_add : T (finite (z ⊕ x)) × Equal (value f (z ⊕ x)) (value f x)
  zero_add =
      let s : size_of (value f z ⊞ value f x) ≡ mag f x * 1 = size_equal _ (value f x) (omega (arith, e)) ∙ size_value f x ∙ sym (mul-one (mag f x)) in
      let r = nearest_exact f 1 (z ⊕ x) (value f z ⊞ value f x) (add_nearest f z x p q) (mag f x) s (known f x q).held in
      (r.0, omega (arith, e, r.1))
