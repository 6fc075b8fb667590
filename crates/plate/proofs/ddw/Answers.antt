-- `ddw` meets its contract: the two loops fill the list row by row, and 81 places of it are the definition.
use Rattle.std.proofs.Common.{◌≡◌, ◌∙◌, ℕ, List, refl, arith}
use Rattle.std.specs.Float.{Float, binary64}
use Rattle.float.specs.Lists.{each, fold, table}
use Rattle.float.proofs.Fill.{run, rows, run_more, rows_more}
use Rattle.plate_bending.specs.Bending.{t0s}
use Rattle.plate_shear.specs.Shear.{rs, ss}
use Rattle.plate.specs.Plate.{accumulated_of, ddw_of}
use Rattle.plate.specs.Parts.{dstrains_of, columns_of, ddw_at_of, row_of}
use Rattle.plate.specs.declared.Dstrains.{Dstrains}
use Rattle.plate.specs.declared.State.{State}
use Rattle.plate.proofs.ddw.Goals as goal
use Rattle.plate.proofs.ddw.Invariants.{place, filled}

pub loop-i-init : goal.loop-i-init
unfolding filled rows
loop-i-init c = refl

pub loop-j-init : goal.loop-j-init
unfolding run
loop-j-init c = refl

pub loop-j-preserved : goal.loop-j-preserved
loop-j-preserved c = run_more (place _) _ _ c.loop-j.j refl refl c.loop-j.invariant

pub loop-i-preserved : goal.loop-i-preserved
unfolding filled
loop-i-preserved c = rows_more place _ 9 _ c.loop-i.i c.loop-j.j (omega arith) c.loop-i.invariant (rw c.row.ensures at c.loop-j.invariant)

whole : (s : State) → filled s (dstrains_of binary64 s.gd s.thk) 9 ≡ ddw_of binary64 s
unfolding filled run rows each table fold dstrains_of columns_of accumulated_of ddw_at_of row_of ddw_of t0s rs ss
whole s = refl

done : (s : State) {d : Dstrains} {i : ℕ} {ddw : List Float} → d ≡ dstrains_of binary64 s.gd s.thk → i ≡ 9 → ddw ≡ filled s d i → ddw ≡ ddw_of binary64 s
done s ed ei e = rw (ed, ei) at e ∙ whole s

pub returns : goal.returns
returns c = done _ c.of-dstrains.ensures (omega arith) c.loop-i.invariant
