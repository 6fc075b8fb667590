-- `ten` meets its contract: after each turn the power is the next one.
use Rattle.std.proofs.Common.{◌≡◌, ◌^◌, pos}
use Rattle.std.specs.Float.{binary64}
use Rattle.std.specs.Float.Ieee.{of_int}
use Rattle.decimal.proofs.units.ten.Given as goal

abbrev pub invariant-loop : goal.invariant-loop
invariant-loop l = l.power ≡ of_int binary64 (pos (10 ^ l.counter))
