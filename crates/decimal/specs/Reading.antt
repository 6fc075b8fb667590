-- What a plain decimal says, or where it is wrong first.
use Rattle.std.specs.Prelude.{◌≡◌, Bool, true, false, cond, not, ◌||◌, List, [], ◌∷◌, ◌++◌, ℕ, ◌+◌, ◌-◌, ◌*◌, ◌^◌, ◌≤◌, ◌<◌, eqb, length, Float, Result, Ok, Err}
use Rattle.std.specs.Float.{binary64}
use Rattle.std.specs.Float.Ieee.{round}
use Rattle.float.specs.Lists.{every}
use Rattle.decimal.specs.Text.{is_digit, said}
use Rattle.decimal.specs.declared.reading.Wrong.{Wrong}

-- a number, or the place of the first byte that is wrong
abbrev pub Number : Type 0
Number = Result Float Wrong

abbrev pub wrong : (at : ℕ) → Number
wrong at = Err (record { at = at })

-- the fraction m * 10 ^ up / 10 ^ down as the nearest double
abbrev pub fraction : (m up down : ℕ) → Number
fraction m up down = Ok (round binary64 false (m * 10 ^ up) (10 ^ down))

-- after digits that say m: `left` more may come, `since` came since the beginning or since the point, and the text goes on at the place `at`
unfoldable pub scanned : (up down m left since : ℕ) (pointed : Bool) (at : ℕ) → List ℕ → Number
scanned up down m left since pointed at [] = cond (eqb since 0) (wrong at) (fraction m up (cond pointed since 0 + down))
scanned up down m left since pointed at (c ∷ text) =
    cond (is_digit c)
    (cond (eqb left 0) (wrong at) (scanned up down (m * 10 + (c - 48)) (left - 1) (since + 1) pointed (at + 1) text))
    (cond (not (eqb c 46) || pointed || eqb since 0) (wrong at) (scanned up down m left 0 true (at + 1) text))

abbrev pub number_of : (up down : ℕ) (text : List ℕ) → Number
number_of up down text = scanned up down 0 15 0 false 0 text

-- ---- the rule
abbrev pub plain : (front rear : List ℕ) → List ℕ
plain front [] = front
plain front (d ∷ rear) = front ++ 46 ∷ d ∷ rear

-- digits, or digits, a point and digits, fifteen at most
pub record IsPlain (front rear text : List ℕ) : Type 0 where
  pub is : text ≡ plain front rear
  pub some : 0 < length front
  pub all_front : every is_digit front ≡ true
  pub all_rear : every is_digit rear ≡ true
  pub few : length front + length rear ≤ 15

-- THE statement of `read`
abbrev pub IsNumber : (up down : ℕ) (text : List ℕ) (r : Number) → Type 0
IsNumber up down text r = (r ≡ number_of up down text) × ((front rear : List ℕ) → IsPlain front rear text → r ≡ fraction (said text) up (length rear + down))
