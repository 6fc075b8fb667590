-- `put` meets its contract: the bytes that there is room for are copied.
use Rattle.std.proofs.Common.{◌≡◌, ◌+◌, ◌-◌, arith}
use Rattle.lines.proofs.Writing.{writes_part}
use Rattle.lines.proofs.put.Goals as goal

pub returns : goal.returns
returns c =
    let n = c.min-n.result in
    let many : c.args.at + n - c.args.at ≡ n = omega arith in
    rw (c.copy_from_slice.ensures.after, many) (writes_part c.args.w.now n c.requires c.min-n.ensures)
