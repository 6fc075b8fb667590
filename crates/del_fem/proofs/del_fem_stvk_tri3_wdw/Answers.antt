-- `del_fem_stvk_tri3_wdw` meets its contract: what the kernel answers, as `give` gives it.
use Rattle.values.proofs.Given.{strain}
use Rattle.del_fem.proofs.del_fem_stvk_tri3_wdw.Goals as goal

pub returns : goal.returns
returns c = rw c.wdw.ensures at (strain c.wdw.result c.give.ensures)
