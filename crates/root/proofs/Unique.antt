-- No second answer fits: one power of two scales x to the M of the rule, one whole number is nearest to M's root, and one number of the format has a value.
use mathlib.Core.Path.{◌≡◌, refl, sym, ap, ◌∙◌}
use mathlib.Core.Bool.{true, false}
use Prim.Native.Nat.{ℕ, zero, suc, ◌+◌, ◌-◌, ◌*◌, ◌^◌, ◌≤◌, ◌<◌}
use native.Mathlib.Nat.{mul-pos, mul-le-mul, mul-lt-mul_of_pos_right, eq_of_mul-eq-mul_right, lt_of_lt_of_le, pow-succ'}
use native.Mathlib.Omega.{arith}
use lib.IntN.{ℤ, pos, negsuc}
use lib.Pow.{pow-add, pow_pos, pow_mono}
use lib.Ieee.{Float, nan, inf, fin, Format, prec, up, down, hid}
use lib.Ieee.Fits.{up_pos, down_pos}
use Rattle.float.proofs.Value.{rescale, fractions_agree, one_float}
use Rattle.whole_root.proofs.Unique.{one_nearest}
use Rattle.root.specs.Root.{Nearest, IsRoot, SquareRoot, SquareRootWord}
use Rattle.root.proofs.Rule.{powers}

-- ---- one scale: M and N lie from H up to below 4 H, and M * A ^ 2 is N * B ^ 2 for powers A and B of two
too_far : (H M N a b : ℕ) → M < 4 * H → H ≤ N → M * (2 ^ a * 2 ^ a) ≡ N * (2 ^ b * 2 ^ b) → a < b → ⊥
too_far H M N a b h k e l = go (2 ^ a) (2 ^ b) (pow_pos a) (rw (← pow-succ') (pow_mono l)) e
  where
    go : (A B : ℕ) → 0 < A → 2 * A ≤ B → M * (A * A) ≡ N * (B * B) → ⊥
    go A B p d e = omega (arith, e, mul-lt-mul_of_pos_right h (mul-pos p p), mul-le-mul k (mul-le-mul d d))

power : (k l : ℤ) → (a : ℕ) × (up k * down l ≡ 2 ^ a)
power (pos a) (pos b) = (a, omega arith)
power (pos a) (negsuc b) = (a + suc b, sym (pow-add 2 a (suc b)))
power (negsuc a) (pos b) = (0, refl)
power (negsuc a) (negsuc b) = (suc b, omega arith)

one_scale : (H M N : ℕ) (k l : ℤ) → (H ≤ M) × (M < 4 * H) → (H ≤ N) × (N < 4 * H) → M * (up k * up k) * (down l * down l) ≡ N * (up l * up l) * (down k * down k)
    → (M ≡ N) × (up k * down l ≡ up l * down k)
one_scale H M N k l m n e =
    let A = power k l in
    let B = power l k in
    let g = squares (up k) (down k) (up l) (down l) (2 ^ A.0) (2 ^ B.0) A.1 B.1 e in
    let p : A.0 < B.0 → ⊥ = too_far H M N A.0 B.0 m.1 n.0 g in
    let q : B.0 < A.0 → ⊥ = too_far H N M B.0 A.0 n.1 m.0 (sym g) in
    let s : A.0 ≡ B.0 = omega arith in
    let P = pow_pos A.0 in
    (eq_of_mul-eq-mul_right (2 ^ A.0 * 2 ^ A.0) (mul-pos P P) M N (rw (sym s) at g), A.1 ∙ ap (λ (z : ℕ). 2 ^ z) s ∙ sym B.1)
  where
    squares : (u d v w A B : ℕ) → u * w ≡ A → v * d ≡ B → M * (u * u) * (w * w) ≡ N * (v * v) * (d * d) → M * (A * A) ≡ N * (B * B)
    squares u d v w A B a b e = rw (sym a, sym b) (omega (arith, e))

-- ---- the rule
sized : (f : Format) (x r : Float) (n : Nearest f x r) → (hid f * hid f ≤ n.M) × (n.M < 4 * (hid f * hid f))
sized f x r n = (omega (arith, (powers f).1, n.M-from), omega (arith, (powers f).2, n.M-below))

nearest_unique : (f : Format) (x r q : Float) → Nearest f x r → Nearest f x q → r ≡ q
nearest_unique f x r q n o =
    let s = one_scale (hid f * hid f) n.M o.M n.k o.k (sized f x r n) (sized f x q o) (fractions_agree x false _ _ _ _ n.x_is o.x_is) in
    let R = one_nearest o.M n.R o.R (rw s.0 at n.close) o.close in
    let e = equal n.R o.R (up n.k) (down n.k) (up o.k) (down o.k) R s.1 in
    let v = rescale q false _ _ (n.R * up n.k) (down n.k) (down_pos o.k) e o.r_is in
    let R-pos : 0 < n.R * up n.k = mul-pos (lt_of_lt_of_le (pow_pos (prec f - 1)) n.R-from) (up_pos n.k) in
    one_float f r q false (n.R * up n.k) (down n.k) n.fit o.fit R-pos (down_pos n.k) n.r_is v
  where
    equal : (R S u d v w : ℕ) → R ≡ S → u * w ≡ v * d → R * u * w ≡ S * v * d
    equal R S u d v w e h = rw e (omega (arith, ap (λ (z : ℕ). S * z) h))

pub unique : (f : Format) (x r q : Float) → IsRoot f x r → IsRoot f x q → r ≡ q
unique f nan r q a b = a ∙ sym b
unique f (inf true) r q a b = a ∙ sym b
unique f (inf false) r q a b = a ∙ sym b
unique f (fin s zero e) r q a b = a ∙ sym b
unique f (fin true (suc m) e) r q a b = a ∙ sym b
unique f (fin false (suc m) e) r q a b = nearest_unique f (fin false (suc m) e) r q a b

pub unique_root : (f : Format) (x r q : Float) → SquareRoot f x r → SquareRoot f x q → r ≡ q
unique_root f x r q a b = unique f x r q a.rule b.rule

pub unique_word : (f : Format) (w r q : ℕ) → SquareRootWord f w r → SquareRootWord f w q → r ≡ q
unique_word f w r q a b = a.same ∙ sym b.same
