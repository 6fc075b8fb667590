-- `del_fem_stvk_tri3_wdwddw_` meets its contract: what the kernel answers, as `give` gives it.
use Rattle.values.proofs.Given.{energy}
use Rattle.del_fem.proofs.del_fem_stvk_tri3_wdwddw_.Goals as goal

pub returns : goal.returns
returns c = rw (c.wdwddw_.ensures, c.of_words-material.ensures) at (energy c.wdwddw_.result c.give.ensures)
