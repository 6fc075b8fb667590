-- `numeral` meets its contract: a turn puts the last digit of what is left, and then come the point and the whole part.
use Rattle.std.proofs.Common.{◌-◌, ◌++◌}
use Rattle.decimal.specs.Text.{pointed}
use Rattle.decimal.proofs.Digits.{Putting}
use Rattle.decimal.proofs.text.Text.numeral.Given as goal

abbrev pub invariant-loop : goal.invariant-loop
invariant-loop l = Putting (l.k - l.counter) l.rest l.self (pointed l.k l.n ++ l.initial.self)
