-- The laws at given numbers of binary64: their premises can be met, and with a smaller bound they fail. All by computing.
use mathlib.Core.Path.{◌≡◌, refl}
use mathlib.Core.Bool.{false}
use mathlib.Core.List.{List, [], ◌∷◌}
use Prim.Native.Nat.{◌*◌, ◌^◌}
use lib.Dec.{lit≤, lit<, le→leb}
use lib.IntN.{pos, negsuc}
use lib.Ieee.{Float, fin, binary64, add, mul, div, fits, of_bits}
use Rattle.float.specs.Lists.{fold, total}
use Rattle.rounding.specs.Exact.{◌⊞◌, ◌⊠◌, size_of, signed, mag, value}
use Rattle.rounding.specs.Error.{Within, Rounded, Chain}
use Rattle.rounding.specs.Sums.{sum_of, exact_sum}
use Rattle.rounding.specs.Dyadic.{Dyad}
use Rattle.rounding.proofs.Rounding.{add_rounded}
use Rattle.rounding.proofs.Chain.{near_exact, div_whole, mul_chain}
use Rattle.rounding.proofs.Sums.{plain_sum}
use Rattle.rounding.proofs.Dyadic.{dyad_mul}

abbrev one : Float
one = fin false 1 (pos 0)

abbrev three : Float
three = fin false 3 (pos 0)

abbrev tiny : Float
tiny = fin false 1 (negsuc 52)

-- 1 + 2 ^ -53 is a tie, and rounds to 1
tie : add binary64 one tiny ≡ one
unfolding add
tie = refl

-- the law of addition holds there, and not with 2 ^ 54 for 2 ^ 53
pub tie_rounded : Rounded binary64 1 (add binary64 one tiny) (value binary64 one ⊞ value binary64 tiny)
unfolding fits
tie_rounded = add_rounded binary64 one tiny tt tt (rw tie tt)

pub tie_sharp : Within (2 ^ 54) 1 1 (value binary64 (add binary64 one tiny)) (value binary64 one ⊞ value binary64 tiny)
    (size_of (value binary64 one ⊞ value binary64 tiny)) → ⊥
unfolding value
tie_sharp h = le→leb _ _ (rw tie at h).within

-- 1, 2 ^ -53 and 2 ^ -53 from left to right come to 1: within 3 roundings, and not within 1
abbrev terms : List Float
terms = one ∷ tiny ∷ tiny ∷ []

lost : total binary64 (λ x. x) terms ≡ one
unfolding fold of_bits add
lost = refl

pub sum_held : Within (2 ^ 53) 3 1 (value binary64 (total binary64 (λ x. x) terms)) (exact_sum (value binary64) terms) (sum_of (mag binary64) terms)
unfolding fits
sum_held = plain_sum binary64 terms (tt, (tt, (tt, tt))) (rw lost tt) (lit≤ tt)

pub sum_sharp : Within (2 ^ 53) 1 1 (value binary64 (total binary64 (λ x. x) terms)) (exact_sum (value binary64) terms) (sum_of (mag binary64) terms) → ⊥
unfolding value sum_of
sum_sharp h = le→leb _ _ (rw lost at h).within

-- 1 / 3 * 3 is 3 / 3 after two roundings
pub third : Chain binary64 2 (2 ^ 1074 * (3 * 1)) (mul binary64 (div binary64 one three) three) (value binary64 one ⊠ value binary64 three)
unfolding fits value div mul
third =
    let start : Chain binary64 0 1 one (value binary64 one) = near_exact tt (lit< tt) refl (lit≤ tt) in
    let quotient : Chain binary64 1 (3 * 1) (div binary64 one three) (value binary64 one) =
    div_whole binary64 three start (lit≤ tt) 3 (lit< tt) (record { fit = tt; fine = tt }) refl tt (λ h. lit≤ tt) in
    mul_chain binary64 three quotient (lit≤ tt) tt tt (λ h. lit≤ tt)

-- half of 3, exactly: 3 * 2 ^ 1073 units
pub half_of_three : Dyad binary64 (mul binary64 (fin false 1 (negsuc 0)) three) 1073 (signed false 1 ⊠ signed false 3) 3
unfolding fits value
half_of_three = dyad_mul binary64 1073 refl (lit≤ tt) half whole (lit< tt)
  where
    half : Dyad binary64 (fin false 1 (negsuc 0)) 1073 (signed false 1) 1
    half = record { number = record { fit = tt; fine = tt }; is = refl; small = lit≤ tt }

    whole : Dyad binary64 three 1074 (signed false 3) 3
    whole = record { number = record { fit = tt; fine = tt }; is = refl; small = lit≤ tt }
