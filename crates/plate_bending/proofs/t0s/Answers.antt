-- `t0s` meets its contract: computed by the definition, the quotients are these numbers.
use Rattle.std.proofs.Common.{refl}
use Rattle.std.specs.Float.Ieee.{div, neg, of_bits}
use Rattle.root.specs.Root.{root_of}
use Rattle.plate_bending.specs.Bending.{t0s}
use Rattle.plate_bending.proofs.t0s.Goals as goal

pub returns : goal.returns
unfolding div neg of_bits root_of t0s
returns c = refl
