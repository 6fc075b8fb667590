-- An amount as text: sign, whole part, point, decimals; and that text in a field.
use Rattle.std.specs.Prelude.{◌≡◌, Bool, true, false, cond, ◌&&◌, List, [], ◌∷◌, ◌++◌, ℕ, zero, suc, ◌+◌, ◌-◌, ◌*◌, ◌/◌, ◌%◌, eqb, leb, ltb, length, replicate}
use Rattle.float.specs.Lists.{fold}
use Rattle.float.specs.Text.{ascii}
use Rattle.decimal.specs.declared.units.Amount.{Amount}
use Rattle.decimal.specs.declared.units.Amount.TheVariants.{Count, Large, NoNumber}

abbrev pub is_digit : ℕ → Bool
is_digit c = leb 48 c && leb c 57

-- the number that the digits of a text say, whatever else stands in it
abbrev pub said : List ℕ → ℕ
said text = fold (λ n c. cond (is_digit c) (n * 10 + (c - 48)) n) 0 text

-- the last digit of n
abbrev pub last : ℕ → List ℕ
last n = (48 + n % 10) ∷ []

-- n in decimal, at most k digits and none for 0
unfoldable pub few_digits : (k n : ℕ) → List ℕ
few_digits zero n = []
few_digits (suc k) n = cond (eqb n 0) [] (few_digits k (n / 10) ++ last n)

-- n below 10 ^ 20 in decimal without leading zeros
unfoldable pub whole_of : (n : ℕ) → List ℕ
whole_of n = few_digits 19 (n / 10) ++ last n

-- n with the point in front of its last k digits
unfoldable pub pointed : (k n : ℕ) → List ℕ
pointed zero n = whole_of n ++ ascii "."
pointed (suc k) n = pointed k (n / 10) ++ last n

-- the same, without a point at the end
abbrev pub numeral_of : (k n : ℕ) → List ℕ
numeral_of zero n = whole_of n
numeral_of (suc k) n = pointed (suc k) n

abbrev pub sign_of : Bool → List ℕ
sign_of true = ascii "-"
sign_of false = []

abbrev pub text_of : (k : ℕ) → Amount → List ℕ
text_of k (Count negative n) = sign_of negative ++ numeral_of k n
text_of k Large = ascii "too large"
text_of k NoNumber = ascii "no number"

-- what an amount counts
abbrev pub count_of : Amount → ℕ
count_of (Count negative n) = n
count_of Large = 0
count_of NoNumber = 0

-- a text at the right of a field of w bytes
unfoldable pub field_of : (w : ℕ) (t : List ℕ) → List ℕ
field_of w t = cond (ltb w (length t)) (replicate w 35) (replicate (w - length t) 32 ++ t)

-- THE statement of `show`
abbrev pub IsShown : (k : ℕ) (amount : Amount) (before : List ℕ) (r : ℕ) (after : List ℕ) → Type 0
IsShown k amount before r after = (after ≡ field_of (length before) (text_of k amount)) × (r ≡ length before - length (text_of k amount))
