-- Sums: exact ones of natural and of signed numbers, and rounded ones of floats by halves. Those from left to right are `total` of float.
use Rattle.std.specs.Prelude.{List, [], ◌∷◌, ℕ, zero, suc, ◌+◌, ◌/◌, max, length, take, drop, Float}
use Rattle.std.specs.Float.{Format}
use Rattle.float.specs.Ops.{ops}
use Rattle.rounding.specs.Exact.{Num}

-- the sum of g a over the elements a of a list
unfoldable pub sum_of : {A : Type 0} → (A → ℕ) → List A → ℕ
sum_of g [] = 0
sum_of g (a ∷ l) = g a + sum_of g l

abbrev pub exact_sum : {A : Type 0} → (A → Num) → List A → Num
exact_sum y l = record { plus = sum_of (λ a. (y a).plus) l; minus = sum_of (λ a. (y a).minus) l }

-- the sum of g i over the numbers i below n
unfoldable pub sum_to : (ℕ → ℕ) → ℕ → ℕ
sum_to g zero = 0
sum_to g (suc n) = sum_to g n + g n

abbrev pub exact_sum_to : (ℕ → Num) → ℕ → Num
exact_sum_to y n = record { plus = sum_to (λ i. (y i).plus) n; minus = sum_to (λ i. (y i).minus) n }

-- the greatest of them, 0 where there are none
unfoldable pub greatest : (ℕ → ℕ) → ℕ → ℕ
greatest g zero = 0
greatest g (suc n) = max (greatest g n) (g n)

module _ (f : Format) where
  open ops f use {◌⊕◌, zero as nought}

  infixl 75 ◌⊕◌
  -- +0 for an empty list, the number itself for one; a longer list is split at half its length, rounded down, and the sums of both parts are added.
  -- n bounds the depth: as many levels as there are values suffice.
  unfoldable pub halve : ℕ → List Float → Float
  halve zero l = nought
  halve (suc n) [] = nought
  halve (suc n) (x ∷ []) = x
  halve (suc n) (x ∷ y ∷ l) = halve n (take (length (x ∷ y ∷ l) / 2) (x ∷ y ∷ l)) ⊕ halve n (drop (length (x ∷ y ∷ l) / 2) (x ∷ y ∷ l))

  abbrev pub halves : List Float → Float
  halves l = halve (length l) l
