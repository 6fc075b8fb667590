-- Between the bounds the digits decide: they are so many whole units where the division leaves nothing over.
use Rattle.std.proofs.Common.{◌%◌, ◌^◌, arith}
use Rattle.units.proofs.Sizes.{whole}
use Rattle.units.proofs.scaled.Goals as goal

pub returns : goal.returns
returns c = whole (c.args.w % 2 ^ 63) (omega arith) (omega arith) (omega arith)
