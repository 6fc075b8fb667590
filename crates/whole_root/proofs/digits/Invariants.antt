-- The invariant is `Turn`, from the list's five digits on: a turn takes two digits of the number and one of the root.
use Rattle.std.proofs.Common.{◌*◌, ◌^◌, ◌<◌}
use Rattle.whole_root.proofs.Turn.{Turn}
use Rattle.whole_root.proofs.digits.Given as goal

abbrev pub invariant-loop : goal.invariant-loop
invariant-loop l = Turn (l.a * 2 ^ 10) l.counter l.s l.r l.b × (l.s < 2 ^ 53)
