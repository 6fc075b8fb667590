-- `del_fem_mitc_tri3_w_dw_ddw_plate_bending` meets its contract: what the kernel answers, as `give` gives it.
use Rattle.values.proofs.Given.{energy}
use Rattle.del_fem.proofs.del_fem_mitc_tri3_w_dw_ddw_plate_bending.Goals as goal

pub returns : goal.returns
returns c = rw (c.w_dw_ddw_plate_bending.ensures, c.of_words-material.ensures) at (energy c.w_dw_ddw_plate_bending.result c.give.ensures)
