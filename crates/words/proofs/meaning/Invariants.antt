-- The bytes before i are the text's, and zeros behind its end.
use Rattle.std.proofs.Common.{◌≡◌, get_or}
use Rattle.float.proofs.Fill.{run}
use Rattle.words.proofs.meaning.Given as goal

abbrev pub invariant-loop-i : goal.invariant-loop-i
invariant-loop-i l = l.words ≡ run (λ i. i) (λ i. get_or l.text i 0) l.initial.words l.i
