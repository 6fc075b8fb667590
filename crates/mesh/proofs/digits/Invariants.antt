-- `digits`: the digits from here on say after n what all of them say after 0.
use Rattle.std.proofs.Common.{◌≡◌, drop}
use Rattle.mesh.specs.Items.{digits}
use Rattle.mesh.proofs.digits.Given as goal

abbrev pub invariant-loop-c : goal.invariant-loop-c
invariant-loop-c l = digits l.n (drop l.c-index l.bytes) ≡ digits 0 (drop l.fn.at l.fn.file)
