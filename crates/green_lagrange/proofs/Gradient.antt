-- F as it is read: a column is an edge of the deformed sheet over a or over b, so that an entry of F^T F is a dot of two edges over the product. A shape function's slopes are -1, 0 or 1 over a or b.
use Prim.Native.Nat.{ℕ, zero, suc, ◌*◌, ◌<◌}
use native.Mathlib.Omega.{arith}
use lib.Ieee.{Format, low}
use Rattle.rounding.specs.Exact.{Num}
use Rattle.vec3.specs.declared.V3.{V3}
use Rattle.green_lagrange.specs.Book as book
use Rattle.green_lagrange.proofs.Fraction.{Reads, reads_sum, reads_minus, reads_product, reads_over, reads_whole}
use Rattle.green_lagrange.proofs.Vector.{Nums, one, none, minus_one, dot, minus, component, Dyads}

-- three entries that read n / a
pub record Column (v : book.Vector) (n : Nums) (a : ℕ) : Type 0 where
  pub x : Reads v.x n.x a
  pub y : Reads v.y n.y a
  pub z : Reads v.z n.z a

pub dot_reads : {u v : book.Vector} {n m : Nums} {a b : ℕ} → Column u n a → Column v m b → Reads (book.dot u v) (dot n m) (a * b)
dot_reads c d = reads_sum (reads_sum (reads_product c.x d.x) (reads_product c.y d.y)) (reads_product c.z d.z)

pub component_reads : {v : book.Vector} {n : Nums} {a : ℕ} → Column v n a → (i : ℕ) → Reads (book.component i v) (component i n) a
component_reads c zero = c.x
component_reads c (suc zero) = c.y
component_reads c (suc (suc i)) = c.z

pub column : (f : Format) (a : ℕ) → 0 < a → {p q : V3} {n m : Nums} {B C : ℕ} → Dyads f p (low f) n B → Dyads f q (low f) m C → Column (book.column f p q a) (minus m n) a
column f a a+ c d = record {
  x = reads_over a a+ (reads_minus (reads_whole f d.x) (reads_whole f c.x));
  y = reads_over a a+ (reads_minus (reads_whole f d.y) (reads_whole f c.y));
  z = reads_over a a+ (reads_minus (reads_whole f d.z) (reads_whole f c.z));
}

-- the slopes of corner c's shape function, times a and times b
abbrev pub slope_x : (c : ℕ) → Num
slope_x zero = minus_one
slope_x (suc zero) = one
slope_x (suc (suc c)) = none

abbrev pub slope_y : (c : ℕ) → Num
slope_y zero = minus_one
slope_y (suc zero) = none
slope_y (suc (suc c)) = one

module _ (a b : ℕ) (a+ : 0 < a) (b+ : 0 < b) where
  pub slope_x_lem : (c : ℕ) → Reads (book.shape_slopes a b c).X (slope_x c) a
  slope_x_lem zero = record { some = omega arith; is = omega arith }
  slope_x_lem (suc zero) = record { some = omega arith; is = omega arith }
  slope_x_lem (suc (suc c)) = record { some = omega arith; is = omega arith }

  pub slope_y_lem : (c : ℕ) → Reads (book.shape_slopes a b c).Y (slope_y c) b
  slope_y_lem zero = record { some = omega arith; is = omega arith }
  slope_y_lem (suc zero) = record { some = omega arith; is = omega arith }
  slope_y_lem (suc (suc c)) = record { some = omega arith; is = omega arith }
