-- How far a computed number is from an exact one. P is 2 ^ prec: one rounding is off by at most 1 / P of the exact result.
use Rattle.std.specs.Prelude.{◌≡◌, Bool, ℕ, ◌-◌, ◌*◌, ◌^◌, ◌≤◌, ◌<◌, T, Float}
use Rattle.std.specs.Float.{Format}
use Rattle.std.specs.Float.Ieee.{prec, low, round, fits}
use Rattle.rounding.specs.Exact.{Num, Equal, ◌⊟◌, scale, size_of, signed, value}

-- |K x - y| is at most c / P of S: the form of 01-scope 6.2, multiplied out
pub record Within (P c K : ℕ) (x y : Num) (S : ℕ) : Type 0 where
  pub within : size_of (scale K x ⊟ y) * P ≤ c * S

-- z is the float nearest to y / K units of 2 ^ -low, what an operation would give without rounding: ±w / K units
pub record NearestTo (f : Format) (K : ℕ) (z : Float) (y : Num) : Type 0 where
  pub s : Bool
  pub w : ℕ
  pub some : 0 < K
  pub is : z ≡ round f s w (K * 2 ^ low f)
  pub exact : Equal y (signed s w)

-- z is off by one rounding: at most 1 / 2 ^ prec of the exact result
abbrev pub Rounded : Format → ℕ → Float → Num → Type 0
Rounded f K z y = Within (2 ^ prec f) 1 K (value f z) y (size_of y)

-- y is zero, or of size b at least
abbrev pub AtLeast : ℕ → Num → Type 0
AtLeast b y = 0 < size_of y → b ≤ size_of y

-- y / K, in units of 2 ^ -low, is zero or in the normal range, where a format keeps all its digits
abbrev pub Normal : Format → ℕ → Num → Type 0
Normal f K y = AtLeast (2 ^ (prec f - 1) * K) y

-- What c roundings leave, each of a number whose exact counterpart is of size S at most: |K x - y| is at most c / (P - c) of S.
-- A further rounding of x adds one to c. At the end c / (P - c) is at most (c + 1) / P if c (c + 1) is at most P; where c reaches P nothing is said.
pub record Err (P c K : ℕ) (x y : Num) (S : ℕ) : Type 0 where
  pub bounded : size_of y ≤ S
  pub error : size_of (scale K x ⊟ y) * (P - c) ≤ c * S

-- the float x, K times, is y after c roundings
pub record Near (f : Format) (c K : ℕ) (x : Float) (y : Num) (S : ℕ) : Type 0 where
  pub fit : T (fits f x)
  pub some : 0 < K
  pub err : Err (2 ^ prec f) c K (value f x) y S

-- the same by products and quotients alone: measured against y itself
abbrev pub Chain : Format → ℕ → ℕ → Float → Num → Type 0
Chain f c K x y = Near f c K x y (size_of y)
