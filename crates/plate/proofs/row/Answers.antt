-- `row` meets its contract: the loop fills eight places from the front and the last store the ninth.
use Rattle.std.proofs.Common.{◌≡◌, ℕ, List, refl, arith}
use Rattle.std.specs.Float.{Float, binary64}
use Rattle.std.proofs.Math.ListN.{set}
use Rattle.float.specs.Lists.{table}
use Rattle.float.proofs.Fill.{run, run_more}
use Rattle.plate.specs.Parts.{columns_of, ddw_at_of, row_of}
use Rattle.plate.specs.declared.Dstrain.{Dstrain}
use Rattle.plate.specs.declared.Dstrains.{Dstrains}
use Rattle.plate.specs.declared.State.{State}
use Rattle.plate.proofs.row.Goals as goal
use Rattle.plate.proofs.row.Invariants.{filled}

pub loop-j-init : goal.loop-j-init
unfolding run
loop-j-init c = refl

pub loop-j-preserved : goal.loop-j-preserved
loop-j-preserved c = run_more (λ j. j) _ _ c.loop-j.j refl (rw (c.ddw_at.ensures, c.columns.ensures)) c.loop-j.invariant

done : (s : State) (d : Dstrains) (i : ℕ) {di : Dstrain} {n : ℕ} {row : List Float} {x : Float} → di ≡ columns_of d i → n ≡ 8 → row ≡ filled s d di n
    → x ≡ ddw_at_of binary64 s di (columns_of d 8) → set row 8 x ≡ row_of binary64 s d i
unfolding run table row_of
done s d i ed en er ex = rw (er, en, ex, ed)

pub returns : goal.returns
returns c = done _ _ _ c.columns-di.ensures (omega arith) c.loop-j.invariant (rw (c.ddw_at-2.ensures, c.columns-2.ensures))
