-- One number and two parts fill the array.
use Rattle.std.proofs.Common.{rules}
use Rattle.values.proofs.Parts.{number_and_parts}
use Rattle.values.proofs.EnergyFlat91.put.Goals as goal

pub returns : goal.returns
returns c =
    rw (c.copy_from_slice.ensures.after, c.copy_from_slice-2.ensures.after)
    (number_and_parts 9 81 c.args.values.now c.args.self.now.dw c.args.self.now.ddw c.args.self.now.w (search rules) (search rules))
