-- `root3` meets its contract: computed by the definition, the root of 3 is this number.
use Rattle.std.proofs.Common.{refl}
use Rattle.std.specs.Float.Ieee.{of_bits}
use Rattle.root.specs.Root.{root_of}
use Rattle.bending.proofs.root3.Goals as goal

pub returns : goal.returns
unfolding of_bits root_of
returns c = refl
