-- `units` meets its contract: a NaN is told first, and a number by its size, which `counted` takes from 2^-31 on.
use Rattle.std.proofs.Common.{◌∙◌, sym, arith}
use Rattle.decimal.proofs.Amounts.{is_units, no_number, neg_neg, when_tiny}
use Rattle.decimal.proofs.units.units.Goals as goal

pub returns-then-is_nan : goal.returns-then-is_nan
returns-then-is_nan c = is_units _ _ (no_number _ _ (sym c.is_nan.ensures.value ∙ c.if-is_nan.true))

pub returns-then-x : goal.returns-then-x
returns-then-x c = is_units _ _ (rw c.min-places.ensures at c.counted.ensures)

pub returns-then-x-2 : goal.returns-then-x-2
returns-then-x-2 c = is_units _ _ (rw (c.min-places.ensures, neg_neg) at c.counted-then-x-2.ensures)

pub returns : goal.returns
returns c = is_units _ _ (when_tiny _ (omega arith) _ (sym c.is_nan.ensures.value ∙ c.if-is_nan.false) c.if-x.false c.if-x-2.false)
