-- Exact sums: over a list, and over the numbers below a count; and the greatest of such. All by induction.
use mathlib.Core.Path.{◌≡◌, refl}
use mathlib.Core.Bool.{cond}
use mathlib.Core.List.{List, [], ◌∷◌, ◌++◌}
use Prim.Native.Nat.{ℕ, zero, suc, ◌+◌, ◌*◌, ◌≤◌, ◌<◌}
use native.Mathlib.Nat.{lt_of_not-le}
use native.Mathlib.Decide.{dec_le}
use native.Mathlib.Omega.{arith}
use lib.Dec.{eqb}
use lib.ListN.{length}
use borrow.Author.Tests.{eq-eqb, ne_eqb}
use Rattle.float.specs.Lists.{All}
use Rattle.rounding.specs.Exact.{Num, Equal, OwnSize, ◌⊠◌, size_of}
use Rattle.rounding.specs.Sums.{sum_of, exact_sum, sum_to, exact_sum_to, greatest}

-- ---- over a list
module _ {A : Type 0} where
  pub sum_append : (g : A → ℕ) (l m : List A) → sum_of g (l ++ m) ≡ sum_of g l + sum_of g m
  unfolding sum_of
  sum_append g [] m = omega arith
  sum_append g (a ∷ l) m = omega (arith, sum_append g l m)

  -- each term is b / k at most
  pub sum_most : (g : A → ℕ) (k b : ℕ) (l : List A) → All (λ a. g a * k ≤ b) l → sum_of g l * k ≤ length l * b
  unfolding sum_of
  sum_most g k b [] h = omega arith
  sum_most g k b (a ∷ l) h = omega (arith, h.0, sum_most g k b l h.1)

  -- each term has the factor w
  module _ (y : A → Num) (w : Num) where
    pub sum_product : (l : List A) → Equal (exact_sum (λ a. y a ⊠ w) l) (exact_sum y l ⊠ w)
    unfolding sum_of
    sum_product [] = omega arith
    sum_product (a ∷ l) = omega (arith, sum_product l)

  -- where each term is its own size, so is the sum, and it is the sum of the sizes
  module _ (y : A → Num) where
    pub own_sum : (l : List A) → All (λ a. OwnSize (y a)) l → OwnSize (exact_sum y l) × (sum_of (λ a. size_of (y a)) l ≡ size_of (exact_sum y l))
    unfolding sum_of
    own_sum [] h = (refl, refl)
    own_sum (a ∷ l) h = let rest = own_sum l h.1 in (omega (arith, h.0, rest.0), omega (arith, h.0, rest.0, rest.1))

-- ---- over the numbers below n
pub own_sum_to : (y : ℕ → Num) (n : ℕ) → ((i : ℕ) → OwnSize (y i)) → OwnSize (exact_sum_to y n) × (sum_to (λ i. size_of (y i)) n ≡ size_of (exact_sum_to y n))
unfolding sum_to
own_sum_to y zero h = (refl, refl)
own_sum_to y (suc n) h = let rest = own_sum_to y n h in (omega (arith, h n, rest.0), omega (arith, h n, rest.0, rest.1))

pub sum_to_add : (g h : ℕ → ℕ) (n : ℕ) → sum_to (λ i. g i + h i) n ≡ sum_to g n + sum_to h n
unfolding sum_to
sum_to_add g h zero = refl
sum_to_add g h (suc n) = omega (arith, sum_to_add g h n)

pub sum_to_same : (g h : ℕ → ℕ) (n : ℕ) → ((i : ℕ) → g i ≡ h i) → sum_to g n ≡ sum_to h n
unfolding sum_to
sum_to_same g h zero e = refl
sum_to_same g h (suc n) e = omega (arith, sum_to_same g h n e, e n)

pub sum_to_zero : (n : ℕ) → sum_to (λ i. 0) n ≡ 0
unfolding sum_to
sum_to_zero zero = refl
sum_to_zero (suc n) = omega (arith, sum_to_zero n)

-- x at one place, a, and 0 elsewhere
before : (a x n : ℕ) → n ≤ a → sum_to (λ i. cond (eqb a i) x 0) n ≡ 0
unfolding sum_to
before a x zero h = refl
before a x (suc n) h = rw (ne_eqb a n (λ e. omega arith)) (omega (arith, before a x n (omega arith)))

pub sum_to_one : (a x n : ℕ) → a < n → sum_to (λ i. cond (eqb a i) x 0) n ≡ x
unfolding sum_to
sum_to_one a x zero h = absurd (omega arith)
sum_to_one a x (suc n) h = elim (dec_le n a) [
  | yes k ↦ rw (eq-eqb a n (omega arith)) (omega (arith, before a x n k))
  | no k ↦ let l = lt_of_not-le k in rw (ne_eqb a n (λ e. omega arith)) (omega (arith, sum_to_one a x n l))
]

pub le_greatest : (g : ℕ → ℕ) (n i : ℕ) → i < n → g i ≤ greatest g n
unfolding greatest
le_greatest g zero i h = absurd (omega arith)
le_greatest g (suc n) i h = elim (dec_le n i) [
  | yes k ↦ let e : n ≡ i = omega arith in rw (← e) (omega arith)
  | no k ↦ omega (arith, le_greatest g n i (lt_of_not-le k))
]
