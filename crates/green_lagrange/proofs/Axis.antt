-- What the factors along one axis leave of the sums that a value and a derivative are, as the fractions of the book have it.
use native.Mathlib.Omega.{arith}
use Rattle.rounding.specs.Exact.{Num, Equal, ◌⊞◌, ◌⊟◌, ◌⊠◌, scale}
use Rattle.green_lagrange.proofs.Values.{form}
use Rattle.green_lagrange.proofs.Vector.{one, none, e_x, e_y, e_z}

-- of a dot: the strains along the edges one by one, as the fractions have them
pub first : (p q r : Num) → Equal (p ⊠ one ⊞ q ⊠ none ⊞ r ⊠ none) p
first p q r = omega arith

pub second : (p q r : Num) → Equal (p ⊠ none ⊞ q ⊠ one ⊞ r ⊠ none) q
second p q r = omega arith

pub third : (p q r : Num) → Equal (p ⊠ none ⊞ q ⊠ none ⊞ scale 2 r ⊠ one) (scale 2 (r ⊟ none))
third p q r = omega arith

-- and of a derivative: what the product rule has
pub first_by : (s t p q : Num) → Equal (form e_x s t p q) (p ⊠ s)
first_by s t p q = omega arith

pub second_by : (s t p q : Num) → Equal (form e_y s t p q) (q ⊠ t)
second_by s t p q = omega arith

pub third_by : (s t p q : Num) → Equal (form e_z s t p q) (p ⊠ t ⊞ s ⊠ q)
third_by s t p q = omega arith
