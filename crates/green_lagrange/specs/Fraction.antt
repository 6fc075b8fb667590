-- Exact fractions, multiplied out (01-scope 6.4): a whole number over a natural one. `∔ ∸ ⋅ ÷` are their operations; a difference keeps its sign.
use Rattle.std.specs.Prelude.{◌≡◌, true, false, ℕ, ◌*◌, ◌<◌, Float}
use Rattle.std.specs.Float.{Format}
use Rattle.rounding.specs.Exact.{Num, Equal, ◌⊞◌, ◌⊟◌, ◌⊠◌, scale, signed, value}
use Rattle.rounding.specs.Whole.{unit, is_number}

infix 60 ◌∕◌
infixl 75 ◌∔◌ ◌∸◌
infixl 80 ◌⋅◌ ◌÷◌
pub record Fraction : Type 0 where
  pub top : Num
  pub bottom : ℕ

-- p and q are one number: neither is over zero, and crosswise they agree
pub record Same (p q : Fraction) : Type 0 where
  pub left : 0 < p.bottom
  pub right : 0 < q.bottom
  pub is : Equal (scale q.bottom p.top) (scale p.bottom q.top)

-- the natural numbers n over d
abbrev pub ◌∕◌ : (n d : ℕ) → Fraction
n ∕ d = record { top = signed false n; bottom = d }

abbrev pub ◌∔◌ : (p q : Fraction) → Fraction
p ∔ q = record { top = scale q.bottom p.top ⊞ scale p.bottom q.top; bottom = p.bottom * q.bottom }

abbrev pub ◌∸◌ : (p q : Fraction) → Fraction
p ∸ q = record { top = scale q.bottom p.top ⊟ scale p.bottom q.top; bottom = p.bottom * q.bottom }

abbrev pub ◌⋅◌ : (p q : Fraction) → Fraction
p ⋅ q = record { top = p.top ⊠ q.top; bottom = p.bottom * q.bottom }

abbrev pub ◌÷◌ : (p : Fraction) (d : ℕ) → Fraction
p ÷ d = record { top = p.top; bottom = p.bottom * d }

-- what a number of the format is exactly: so many units, over the units in 1
abbrev pub exact : Format → Float → Fraction
exact f x = record { top = value f x; bottom = unit f }

-- the float x is q: a number of the format, neither a NaN nor an infinity, and exactly q
pub record Is (f : Format) (x : Float) (q : Fraction) : Type 0 where
  pub number : is_number f x ≡ true
  pub same : Same (exact f x) q
