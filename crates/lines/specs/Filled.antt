-- A template with its numbers put in, and a text written over the front of a buffer.
use Rattle.std.specs.Prelude.{◌≡◌, cond, List, [], ◌∷◌, ◌++◌, ℕ, zero, suc, ◌+◌, ◌-◌, ◌*◌, ◌^◌, min, eqb, leb, pos, Float, length, get_or, replicate}
use Rattle.std.specs.Float.{nan, binary64}
use Rattle.std.specs.Float.Ieee.{of_int}
use Rattle.float.specs.Lists.{◌!◌}
use Rattle.decimal.specs.Units.{units_of}
use Rattle.decimal.specs.Text.{text_of}

-- a text in w places at least, blanks in front
abbrev pub padded : (w : ℕ) (t : List ℕ) → List ℕ
padded w t = replicate (w - length t) 32 ++ t

-- x in units of 10 ^ -p, the point in front of the last k digits, in w places at least; p and k count as 9 at most, w as 32
unfoldable pub shown_of : (p k w : ℕ) (x : Float) → List ℕ
shown_of p k w x = padded (min w 32) (text_of (min k 9) (units_of (min p 9) x))

-- THE statement of `count`: n as a number; the NaN above 2 ^ 53
abbrev pub count_of : (n : ℕ) → Float
count_of n = cond (leb n (2 ^ 53)) (of_int binary64 (pos n)) nan

-- the digit i of those that follow a %; where there is none, 0
abbrev pub digit_of : (i : ℕ) (more : List ℕ) → ℕ
digit_of i more = get_or more i 0 - 48

-- `%pkww`, of which `more` begins with pkww
abbrev pub field_of : (more : List ℕ) (x : Float) → List ℕ
field_of more x = shown_of (digit_of 0 more) (digit_of 1 more) (digit_of 2 more * 10 + digit_of 3 more) x

module _ (numbers : List Float) where
  -- the template from some byte on, with number j the next, after `skip` bytes that are left out
  unfoldable pub filled_from : (j skip : ℕ) (template : List ℕ) → List ℕ
  filled_from j skip [] = []
  filled_from j (suc skip) (c ∷ more) = filled_from j skip more
  filled_from j zero (c ∷ more) = cond (eqb c 37) (field_of more (numbers ! j) ++ filled_from (suc j) 4 more) (c ∷ filled_from j zero more)

unfoldable pub filled_of : (template : List ℕ) (numbers : List Float) → List ℕ
filled_of template numbers = filled_from numbers 0 0 template

-- the bytes w over those of a buffer from `at` on, as far as there is room
unfoldable pub over_at : (at : ℕ) (w buffer : List ℕ) → List ℕ
over_at at w [] = []
over_at (suc at) w (b ∷ buffer) = b ∷ over_at at w buffer
over_at zero [] (b ∷ buffer) = b ∷ buffer
over_at zero (c ∷ w) (b ∷ buffer) = c ∷ over_at zero w buffer

-- w is written so, and r is the place after what there was room for
pub record Writes (w : List ℕ) (at : ℕ) (before : List ℕ) (r : ℕ) (after : List ℕ) : Type 0 where
  pub place : r ≡ min (at + length w) (length before)
  pub made : after ≡ over_at at w before

-- THE statement of `fill`
abbrev pub IsFilled : (template : List ℕ) (numbers : List Float) (before : List ℕ) (r : ℕ) (after : List ℕ) → Type 0
IsFilled template numbers before r after = Writes (filled_of template numbers) 0 before r after
