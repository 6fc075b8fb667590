-- `dw` meets its contract: the two loops fill the list row by row, and nine places of it are the definition.
use Rattle.std.proofs.Common.{◌≡◌, refl, arith}
use Rattle.float.specs.Lists.{each, table}
use Rattle.float.proofs.Fill.{run, rows, run_more, rows_more}
use Rattle.stvk.specs.Stvk.{at_of, dw_of}
use Rattle.stvk.proofs.dw.Goals as goal
use Rattle.stvk.proofs.dw.Invariants.{place}

pub loop-ino-init : goal.loop-ino-init
unfolding rows
loop-ino-init c = refl

pub loop-idim-init : goal.loop-idim-init
unfolding run
loop-idim-init c = refl

pub loop-idim-preserved : goal.loop-idim-preserved
unfolding at_of
loop-idim-preserved c = run_more (place _) _ _ c.loop-idim.idim refl c.dw_at.ensures c.loop-idim.invariant

pub loop-ino-preserved : goal.loop-ino-preserved
unfolding at_of
loop-ino-preserved c = rows_more place _ 3 _ c.loop-ino.ino c.loop-idim.idim (omega arith) c.loop-ino.invariant c.loop-idim.invariant

pub returns : goal.returns
unfolding dw_of each table run rows
returns c =
    let e : c.loop-ino.ino ≡ 3 = omega arith in
    rw (c.dndr.ensures, c.along-g.ensures, e) at c.loop-ino.invariant
