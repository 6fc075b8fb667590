-- The root of an exact square is exact: a number above 0, brought to all its digits, is nearest to the root of its own square.
use mathlib.Core.Path.{◌≡◌, sym, ap, ◌∙◌}
use mathlib.Core.Bool.{Bool, false}
use Prim.Native.Nat.{ℕ, zero, suc, ◌+◌, ◌-◌, ◌*◌, ◌^◌, ◌≤◌, ◌<◌}
use native.Mathlib.Nat.{mul-pos, mul-le-mul, mul-le-mul_right, zero-lt-suc}
use native.Mathlib.Omega.{arith}
use lib.Dec.{T}
use lib.IntN.{ℤ}
use lib.Pow.{pow-add, pow_pos, shl_lt}
use lib.Ieee.{Float, nan, inf, fin, Format, prec, low, up, down, size, hid, fits}
use lib.Ieee.Digits.{size-lt, size-le, size_reaches}
use lib.Ieee.Exact.{HasValue}
use lib.Ieee.Fits.{down_pos}
use Rattle.float.proofs.Value.{rescale, fractions_agree, written, place, no_zero}
use Rattle.whole_root.proofs.Whole.{stays}
use Rattle.root.specs.Root.{Nearest, root_of}
use Rattle.root.proofs.Rule.{powers, double, Rounded, found, by_nearest}
use Rattle.root.proofs.RootOf.{size_gt, is_root_of}

-- m with as many zeros behind it as give it all the digits of the format
filled : (f : Format) (m : ℕ) → 0 < m → m < 2 ^ prec f → (t : ℕ) × (t ≤ prec f) × (hid f ≤ m * 2 ^ t) × (m * 2 ^ t < 2 * hid f)
filled f m p h =
    let s = size m in
    let t = prec f - s in
    let s+ : 0 < s = size_gt m 0 p in
    let s≤ : s ≤ prec f = size-le m (prec f) h in
    let top : s - 1 + t ≡ prec f - 1 = omega arith in
    let all : s + t ≡ prec f = omega arith in (
      t,
      omega arith,
      rw (← top, pow-add) (mul-le-mul_right (2 ^ t) (size_reaches m (s - 1) (omega arith))),
      omega (arith, shl_lt s t (size-lt m), ap (λ (z : ℕ). 2 ^ z) all, (powers f).0),
    )

-- such a number is nearest to the root of its square
own_root : (f : Format) (R : ℕ) → hid f ≤ R → R < 2 * hid f → Rounded f (R * R) R
own_root f R h l =
    let H+ = pow_pos (prec f - 1) in
    let e : R * R + 0 ≡ R * R = omega arith in
    record { from = mul-le-mul h h; room = omega (arith, mul-le-mul l l); close = rw e at (stays R 0 (omega arith) (omega arith)) }

nearest : (f : Format) (x : Float) (s : Bool) (m : ℕ) (e : ℤ) (a c : ℕ) → T (fits f (fin s (suc m) e)) → 0 < c → HasValue (fin s (suc m) e) false a c → HasValue x false (a * a) (c * c)
    → Nearest f x (fin s (suc m) e)
nearest f x s m e a c q c+ v u =
    let w = written f s m e q in
    let C = low f + prec f in
    let at = place (low f) C e w.fine (omega arith) in
    let (t, t≤, from, below) = filled f (suc m) (zero-lt-suc m) w.few in
    let R = suc m * 2 ^ t in
    let j = at.0 - t in
    let J : t + j ≡ at.0 = omega (arith, at.1) in
    let r : HasValue (fin s (suc m) e) false (R * 2 ^ j) (2 ^ C) = (v.0, at.2 (suc m) ∙ ap (λ (z : ℕ). z * down e) (sym (apart (suc m) t j at.0 J))) in
    let h = squares a c (R * 2 ^ j) (2 ^ C) (fractions_agree (fin s (suc m) e) false _ _ _ _ v r) in
    found f (R * R) R (own_root f R from below) j C x (fin s (suc m) e)
    (rescale x false (a * a) (c * c) (R * R * 2 ^ (2 * j)) (2 ^ (2 * C)) (mul-pos c+ c+)
    (rw (double j, double C) (go R (2 ^ j) (2 ^ C) h)) u) r q
  where
    apart : (n t j J : ℕ) → t + j ≡ J → n * 2 ^ t * 2 ^ j ≡ n * 2 ^ J
    apart n t j J h = rw (← h, pow-add) (omega arith)

    squares : (a c b d : ℕ) → a * d ≡ b * c → a * a * (d * d) ≡ b * b * (c * c)
    squares a c b d h = omega (arith, ap (λ (z : ℕ). z * z) h)

    go : (R p d : ℕ) → a * a * (d * d) ≡ R * p * (R * p) * (c * c) → R * R * (p * p) * (c * c) ≡ a * a * (d * d)
    go R p d h = omega (arith, h)

-- ---- THE law: x is r * r, as fractions
pub square : (f : Format) (x r : Float) (a c : ℕ) → T (fits f x) → T (fits f r) → 0 < a → 0 < c → HasValue r false a c → HasValue x false (a * a) (c * c) → root_of f x ≡ r
square f x nan a c p q a+ c+ v u = absurd v
square f x (inf s) a c p q a+ c+ v u = absurd v
square f x (fin s zero e) a c p q a+ c+ v u = absurd (no_zero (up e) (down e) a c (mul-pos a+ (down_pos e)) v.1)
square f x (fin s (suc m) e) a c p q a+ c+ v u = sym (is_root_of f x _ p (by_nearest f x _ (nearest f x s m e a c q c+ v u)))
