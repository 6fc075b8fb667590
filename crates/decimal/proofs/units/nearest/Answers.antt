-- `nearest` meets its contract: every step fits, and what it hands to `rounded` is the product by the power of two.
use Rattle.std.proofs.Common.{◌^◌, arith, lit<}
use native.Mathlib.Nat.{mod-lt}
use Rattle.decimal.proofs.Nearest.{one_fits, quotient_fits, by_high, shift_fits, sum_fits, by_low}
use Rattle.decimal.proofs.units.nearest.Goals as goal

pub overflow_mul-one : goal.overflow_mul-one
overflow_mul-one c = omega (arith, (one_fits c.two-half.ensures (omega arith)).1)

pub rounded-requires : goal.rounded-requires
rounded-requires c = (quotient_fits c.requires.0 c.requires.1 _, mod-lt _ (one_fits c.two-half.ensures (omega arith)).0)

pub returns-then-j-gt30 : goal.returns-then-j-gt30
returns-then-j-gt30 c = by_high c.requires.0 c.requires.1 c.two-half.ensures (omega arith) (c.rounded.ensures (2 ^ 30) (mod-lt _ (lit< tt)))

pub overflow_mul-high-2 : goal.overflow_mul-high-2
overflow_mul-high-2 c = omega (arith, shift_fits c.requires.0 c.requires.1 c.two-half-2.ensures c.two.ensures c.requires.2 (omega arith) c.requires.4)

pub overflow_add-high-2 : goal.overflow_add-high-2
overflow_add-high-2 c = omega (arith, sum_fits c.requires.0 c.requires.1 c.two-half-2.ensures c.two.ensures c.requires.2 (omega arith) c.requires.4)

pub rounded-requires-2 : goal.rounded-requires-2
rounded-requires-2 c =
    (sum_fits c.requires.0 c.requires.1 c.two-half-2.ensures c.two.ensures c.requires.2 (omega arith) c.requires.4, mod-lt _ (one_fits c.two-half-2.ensures (omega arith)).0)

pub returns : goal.returns
returns c = by_low c.requires.0 c.requires.1 c.two-half-2.ensures c.two.ensures c.requires.2 (omega arith) c.requires.4 (c.rounded-2.ensures 1 (lit< tt))
