-- `fill` meets its contract: at each turn the text so far is written, and what is left of the template follows it.
use Rattle.std.proofs.Common.{length}
use Rattle.lines.proofs.Filling.{SoFar}
use Rattle.lines.proofs.fill.Given as goal

abbrev pub invariant-loop-c : goal.invariant-loop-c
invariant-loop-c l = SoFar l.template l.numbers l.fn.out l.at l.out l.left.rest.now l.rest

abbrev pub decreases-loop-c : goal.decreases-loop-c
decreases-loop-c l = length l.rest
