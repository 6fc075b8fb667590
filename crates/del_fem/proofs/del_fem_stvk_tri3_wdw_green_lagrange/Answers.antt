-- `del_fem_stvk_tri3_wdw_green_lagrange` meets its contract: what the kernel answers, as `give` gives it.
use Rattle.values.proofs.Given.{strain}
use Rattle.del_fem.proofs.del_fem_stvk_tri3_wdw_green_lagrange.Goals as goal

pub returns : goal.returns
returns c = rw c.wdw_green_lagrange.ensures at (strain c.wdw_green_lagrange.result c.give.ensures)
