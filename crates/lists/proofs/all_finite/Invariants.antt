-- The invariant: where the four sums are finite, what is left of the fours is finite exactly when all of them are.
use Rattle.std.specs.Float.{binary64}
use Rattle.lists.proofs.Sums.{Summed}
use Rattle.lists.proofs.all_finite.Given as goal

abbrev pub invariant-loop-four : goal.invariant-loop-four
invariant-loop-four l = Summed binary64 l.fours l.four-index l.a l.b l.c l.d
