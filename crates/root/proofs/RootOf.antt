-- `root_of` meets the rule, and so is the only answer: its M has the digits that the rule asks for, and `nearest_root` is nearest to M's root.
use mathlib.Core.Path.{◌≡◌, refl, sym, ap, ◌∙◌}
use mathlib.Core.Bool.{true, false}
use Prim.Native.Nat.{ℕ, zero, suc, ◌+◌, ◌-◌, ◌*◌, ◌/◌, ◌^◌, ◌≤◌, ◌<◌}
use native.Mathlib.Nat.{lt_irrefl, le_trans, le_of_lt, lt_of_lt_of_le, lt_of_not-le, mul-le-mul_right, mul-lt-mul_of_pos_right}
use native.Mathlib.Nat.{lt_of_mul-lt-mul_right, le_of_mul-le-mul_right, div-eq_of_eq-mul_left, pow-succ'}
use native.Mathlib.Omega.{arith}
use lib.Dec.{T, lit≤}
use lib.IntN.{ℤ}
use lib.Pow.{pow-add, pow_pos, pow_mono, shl_lt}
use lib.Ieee.{Float, nan, inf, fin, Format, binary32, binary64, prec, emax, low, up, down, size, odd, hid, fits, of_bits, to_bits}
use lib.Ieee.Bits.{of_bits-to_bits, of_bits-fits}
use lib.Ieee.Digits.{size-lt, size-le, size_reaches}
use lib.Ieee.Exact.{odd_sign}
use lib.Ieee.Fits.{two, down_pos, odd-fits}
use Rattle.float.specs.Numbers.{nan_word}
use Rattle.float.proofs.Bits.{nan_bits_lem}
use Rattle.float.proofs.Value.{Written, written, place}
use Rattle.whole_root.specs.Whole.{nearest_root}
use Rattle.whole_root.proofs.Whole.{nearest_root_is}
use Rattle.root.specs.Root.{Nearest, IsRoot, SquareRoot, SquareRootWord, root_of, root_word_of}
use Rattle.root.proofs.Rule.{powers, Rounded, in_range_lem, found}
use Rattle.root.proofs.Unique.{unique}

-- ---- the digits of M
pub size_gt : (n j : ℕ) → 2 ^ j ≤ n → j < size n
size_gt n j h = lt_of_not-le (λ (g : size n ≤ j). lt_irrefl n (lt_of_lt_of_le (size-lt n) (le_trans (pow_mono g) h)))

leading : (n M j a b : ℕ) → n ≡ M * 2 ^ j → a + j < size n → size n ≤ b + j → (2 ^ a ≤ M) × (M < 2 ^ b)
leading n M j a b e lo hi = (
  le_of_mul-le-mul_right (rw (← pow-add, ← e) (size_reaches n (a + j) lo)) (pow_pos j),
  lt_of_mul-lt-mul_right (2 ^ j) (rw (← pow-add, ← e) (lt_of_lt_of_le (size-lt n) (pow_mono hi))),
)

apart : (q a b c : ℕ) → q * 2 ^ (a + b + c) ≡ q * 2 ^ a * 2 ^ b * 2 ^ c
apart q a b c = omega (arith, ap (λ (z : ℕ). q * z) (pow-add 2 (a + b) c), ap (λ (z : ℕ). q * z * 2 ^ c) (pow-add 2 a b))

-- M is m * 2 ^ d * H with an m below 2 H: where it is below 4 H * H, it stays 2 H below
room : (H m d : ℕ) → 0 < H → m < 2 * H → m * 2 ^ d * H < 4 * (H * H) → m * 2 ^ d * H + 2 * H ≤ 4 * (H * H)
room H m zero p h l = omega (arith, mul-le-mul_right H h, mul-le-mul_right H p)
room H m (suc d) p h l =
    let e : m * 2 ^ suc d * H ≡ 2 * (m * 2 ^ d * H) = omega (arith, ap (λ (z : ℕ). m * z * H) (pow-succ' 2 d)) in
    let k : m * 2 ^ d < 2 * H = lt_of_mul-lt-mul_right H (omega arith) in
    omega (arith, mul-le-mul_right H k)

wide : (f : Format) → (2 * (prec f - 1) ≤ low f) × (4 ^ prec f ≡ 4 * (hid f * hid f))
wide binary32 = (lit≤ tt, refl)
wide binary64 = (lit≤ tt, refl)

-- ---- the root of a finite number above 0
rooted : (f : Format) (m : ℕ) (e : ℤ) → Written f (suc m) e → Nearest f (fin false (suc m) e) (root_of f (fin false (suc m) e))
unfolding root_of
rooted f m e w =
    let p = prec f in
    let l = low f in
    let H = hid f in
    let P = powers f in
    let W = wide f in
    let at = place l (2 * l) e w.fine (omega arith) in
    let J = at.0 in
    let n = suc m * up e * 2 ^ (2 * l) / down e in
    let n-is : n ≡ suc m * 2 ^ J = div-eq_of_eq-mul_left (down_pos e) (at.2 (suc m)) in
    let z-gt : J < size n = size_gt n J (omega (arith, n-is)) in
    let z-le : size n ≤ p + J = size-le n (p + J) (rw n-is (shl_lt p J w.few)) in
    let whole : n * down e ≡ suc m * up e * 2 ^ (2 * l) = ap (λ (y : ℕ). y * down e) n-is ∙ sym (at.2 (suc m)) in
    let under = mul-lt-mul_of_pos_right w.under (pow_pos (2 * l)) in
    let z-top : size n ≤ suc (emax f) + 2 * l = size-le n _ (lt_of_mul-lt-mul_right (down e) (rw (whole, pow-add) (omega (arith, under)))) in
    let j = (size n - 1) / 2 - (p - 1) in
    let d = J - 2 * j - (p - 1) in
    let two-p = two f in
    let lo : 2 * (p - 1) + 2 * j < size n = omega arith in
    let hi : size n ≤ 2 * p + 2 * j = omega arith in
    let J-is : J ≡ d + (p - 1) + 2 * j = omega arith in
    let M = suc m * 2 ^ d * H in
    let cut : n ≡ M * 2 ^ (2 * j) = n-is ∙ ap (λ (y : ℕ). suc m * 2 ^ y) J-is ∙ apart (suc m) d (p - 1) (2 * j) in
    let M-is : n / 2 ^ (2 * j) ≡ M = div-eq_of_eq-mul_left (pow_pos (2 * j)) cut in
    let M-in = leading n M (2 * j) (2 * (p - 1)) (2 * p) cut lo hi in
    let R = nearest_root p M in
    let near : Rounded f M R = record {
      from = omega (arith, M-in.0, P.1);
      room = room H (suc m) d (pow_pos (p - 1)) (omega (arith, w.few, P.0)) (omega (arith, M-in.1, P.2));
      close = nearest_root_is p M (lt_of_lt_of_le (pow_pos (2 * (p - 1))) M-in.0) (omega (arith, M-in.1, P.2, W.1));
    } in
    let R-below : R < 2 ^ p = omega (arith, (in_range_lem f M R near).1, P.0) in
    rw M-is
    (found f M R near j l (fin false (suc m) e) (odd p false R j l) (refl, sym whole ∙ ap (λ (y : ℕ). y * down e) cut) (odd_sign p false R j l)
    (odd-fits f p false R j R-below (le_of_lt R-below) (lt_of_lt_of_le (shl_lt p j R-below) (pow_mono (omega arith)))))

pub root_of_is : (f : Format) (x : Float) → T (fits f x) → IsRoot f x (root_of f x)
unfolding root_of
root_of_is f nan h = refl
root_of_is f (inf true) h = refl
root_of_is f (inf false) h = refl
root_of_is f (fin s zero e) h = refl
root_of_is f (fin true (suc m) e) h = refl
root_of_is f (fin false (suc m) e) h = rooted f m e (written f false m e h)

pub is_root_of : (f : Format) (x r : Float) → T (fits f x) → IsRoot f x r → r ≡ root_of f x
is_root_of f x r h a = unique f x r (root_of f x) a (root_of_is f x h)

-- so the rule alone makes the statement
pub answered : (f : Format) (x r : Float) → T (fits f x) → IsRoot f x r → SquareRoot f x r
answered f x r h a = record { rule = a; same = is_root_of f x r h a }

pub answered_word : (f : Format) (w r : ℕ) (x y : Float) → T (fits f y) → x ≡ of_bits f w → SquareRoot f x y → r ≡ to_bits f y → SquareRootWord f w r
unfolding root_word_of
answered_word f w r x y h i a o = record { rule = rw (o, of_bits-to_bits f y h, sym i) a.rule; same = rw (o, a.same, i) }

-- where the rule's answer is the NaN, the word is that of the one NaN
pub nan_word_lem : (f : Format) (w : ℕ) → IsRoot f (of_bits f w) nan → root_word_of f w ≡ nan_word f
unfolding root_word_of
nan_word_lem f w a = rw (← is_root_of f (of_bits f w) nan (of_bits-fits f w) a) (nan_bits_lem f)
