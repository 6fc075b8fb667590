-- `del_fem_quadratic_bending_wdw` meets its contract: what the kernel answers, as `give` gives it.
use Rattle.values.proofs.Given.{bending}
use Rattle.del_fem.proofs.del_fem_quadratic_bending_wdw.Goals as goal

pub returns : goal.returns
returns c = rw c.wdw.ensures at (bending c.wdw.result c.give.ensures)
