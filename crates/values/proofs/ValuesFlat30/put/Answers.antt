-- The two parts fill the array.
use Rattle.std.proofs.Common.{rules}
use borrow.Rule.Slice.PartMut.{post_of}
use Rattle.values.proofs.Parts.{two_parts}
use Rattle.values.proofs.ValuesFlat30.put.Goals as goal

pub returns : goal.returns
returns c = rw (c.copy_from_slice.ensures.after, c.copy_from_slice-2.ensures.after) (two_parts 3 27 c.args.self.now.w c.args.self.now.dw (post_of 0 3 c.args.values.now) (search rules) (search rules))
