-- The square root of 01-scope 4, over the format: its rule in whole numbers, and the same root computed.
use Rattle.std.specs.Prelude.{◌≡◌, true, false, ℕ, zero, suc, ◌-◌, ◌*◌, ◌/◌, ◌^◌, ◌≤◌, ◌<◌, T, ℤ, Float}
use Rattle.std.specs.Float.{nan, inf, fin, Format}
use Rattle.std.specs.Float.Ieee.{prec, low, up, down, size, odd, fits, of_bits, to_bits}
use Rattle.std.specs.Float.Ieee.Exact.{HasValue}
pub use Rattle.whole_root.specs.Whole.{Close}
unfoldable pub use Rattle.whole_root.specs.Whole.{isqrt, nearest_root}

-- ---- the rule

-- 4.1, a finite x above 0: r is R * 2 ^ k and x is M * 2 ^ (2 k), R with all the digits of the format, M with twice as many or one less.
-- r is a number of the format, so that the rule has one answer
pub record Nearest (f : Format) (x r : Float) : Type 0 where
  pub R : ℕ
  pub M : ℕ
  pub k : ℤ
  pub R-from : 2 ^ (prec f - 1) ≤ R
  pub R-below : R < 2 ^ prec f
  pub M-from : 2 ^ (2 * (prec f - 1)) ≤ M
  pub M-below : M < 2 ^ (2 * prec f)
  pub x_is : HasValue x false (M * (up k * up k)) (down k * down k)
  pub r_is : HasValue r false (R * up k) (down k)
  pub close : Close M R
  pub fit : T (fits f r)

-- 4.1 and 4.2 by cases: both zeros and +infinity give themselves, everything else below zero and every NaN the NaN
abbrev pub IsRoot : Format → Float → Float → Type 0
IsRoot f nan r = r ≡ nan
IsRoot f (inf true) r = r ≡ nan
IsRoot f (inf false) r = r ≡ inf false
IsRoot f (fin s zero e) r = r ≡ fin s zero e
IsRoot f (fin true (suc m) e) r = r ≡ nan
IsRoot f (fin false (suc m) e) r = Nearest f (fin false (suc m) e) r

-- ---- the same root, computed

-- by the same cases. A finite x above 0 is n / 2 ^ (2 low); M is n / 2 ^ (2 j), with 2 prec - 1 or 2 prec digits; the root is R * 2 ^ j / 2 ^ low
unfoldable pub root_of : Format → Float → Float
unfolding nearest_root odd size
root_of f nan = nan
root_of f (inf true) = nan
root_of f (inf false) = inf false
root_of f (fin s zero e) = fin s zero e
root_of f (fin true (suc m) e) = nan
root_of f (fin false (suc m) e) =
    let n = suc m * up e * 2 ^ (2 * low f) / down e in
    let j = (size n - 1) / 2 - (prec f - 1) in
    odd (prec f) false (nearest_root (prec f) (n / 2 ^ (2 * j))) j (low f)

-- the same on bit patterns; the pattern of the one NaN is 0x7FF8000000000000 at binary64
unfoldable pub root_word_of : Format → ℕ → ℕ
unfolding root_of to_bits of_bits
root_word_of f w = to_bits f (root_of f (of_bits f w))

-- ---- the statements

-- r is the root of x by the rule, and it is what `root_of` computes
pub record SquareRoot (f : Format) (x r : Float) : Type 0 where
  pub rule : IsRoot f x r
  pub same : r ≡ root_of f x

-- the pattern r stands for the root of what the pattern w stands for, and it is what `root_word_of` computes
pub record SquareRootWord (f : Format) (w r : ℕ) : Type 0 where
  pub rule : IsRoot f (of_bits f w) (of_bits f r)
  pub same : r ≡ root_word_of f w
