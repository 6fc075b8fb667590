-- `put_fraction` is safe: what is left stays below 1024.
use Rattle.std.proofs.Common.{◌<◌}
use Rattle.panel.proofs.number.put_fraction.Given as goal

abbrev pub invariant-loop-count : goal.invariant-loop-count
invariant-loop-count g l = l.left < 1024
