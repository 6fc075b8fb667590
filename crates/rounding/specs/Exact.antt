-- Exact signed numbers, each a difference of two natural ones, and the exact value of a float (01-scope 6.1) in units of its format's smallest one, 2 ^ -low.
use Rattle.std.specs.Prelude.{◌≡◌, Bool, true, false, ℕ, ◌+◌, ◌-◌, ◌*◌, ◌/◌, ◌^◌, ◌<◌, T, Float}
use Rattle.std.specs.Float.{nan, inf, fin, Format}
use Rattle.std.specs.Float.Ieee.{low, up, down, fits}
use Rattle.std.specs.Float.Ieee.Scale.{finite}

infixl 75 ◌⊞◌ ◌⊟◌
infixl 80 ◌⊠◌
-- the number plus - minus
pub record Num : Type 0 where
  pub plus : ℕ
  pub minus : ℕ

-- two such differences are one number
abbrev pub Equal : Num → Num → Type 0
Equal a b = a.plus + b.minus ≡ b.plus + a.minus

-- sum, difference and product without rounding: squares are exact where circles round
abbrev pub ◌⊞◌ : Num → Num → Num
a ⊞ b = record { plus = a.plus + b.plus; minus = a.minus + b.minus }

abbrev pub ◌⊟◌ : Num → Num → Num
a ⊟ b = record { plus = a.plus + b.minus; minus = a.minus + b.plus }

abbrev pub ◌⊠◌ : Num → Num → Num
a ⊠ b = record { plus = a.plus * b.plus + a.minus * b.minus; minus = a.plus * b.minus + a.minus * b.plus }

abbrev pub opposite : Num → Num
opposite a = record { plus = a.minus; minus = a.plus }

abbrev pub scale : ℕ → Num → Num
scale k a = record { plus = k * a.plus; minus = k * a.minus }

-- the number without its sign
abbrev pub size_of : Num → ℕ
size_of a = (a.plus - a.minus) + (a.minus - a.plus)

-- a, or -a where the sign is set
abbrev pub signed : Bool → ℕ → Num
signed false a = record { plus = a; minus = 0 }
signed true a = record { plus = 0; minus = a }

abbrev pub Negative : Num → Type 0
Negative a = a.plus < a.minus

-- the number is its size: it is not negative
abbrev pub OwnSize : Num → Type 0
OwnSize a = Equal a (signed false (size_of a))

-- a finite float is ±mag units of 2 ^ -low
unfoldable pub mag : Format → Float → ℕ
mag f nan = 0
mag f (inf s) = 0
mag f (fin s m e) = m * up e * 2 ^ low f / down e

unfoldable pub sign : Float → Bool
sign nan = false
sign (inf s) = s
sign (fin s m e) = s

unfoldable pub value : Format → Float → Num
unfolding mag sign
value f x = signed (sign x) (mag f x)

-- x is a number of the format: held by it, and neither a NaN nor an infinity
pub record Number (f : Format) (x : Float) : Type 0 where
  pub fit : T (fits f x)
  pub fine : T (finite x)
