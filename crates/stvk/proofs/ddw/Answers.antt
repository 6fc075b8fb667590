-- `ddw` meets its contract: the two loops fill the list corner by corner, and 81 places of it are the definition.
use Rattle.std.proofs.Common.{◌≡◌, ◌∙◌, ℕ, List, refl, arith}
use Rattle.std.specs.Float.{Float, binary64}
use Rattle.float.specs.Lists.{each}
use Rattle.float.proofs.Fill.{run, rows, run_more, rows_more}
use Rattle.stvk.specs.Stvk.{at_of, along_of, dndr_of, block_of, ddw_of}
use Rattle.stvk.specs.Parts.{blocks_of}
use Rattle.stvk.specs.declared.State.{State}
use Rattle.del_geo_core.specs.declared.tri2.V2.{V2}
use Rattle.stvk.proofs.ddw.Goals as goal
use Rattle.stvk.proofs.ddw.Invariants.{place, filled}

pub loop-ino-init : goal.loop-ino-init
unfolding filled rows
loop-ino-init c = refl

pub loop-k-init : goal.loop-k-init
unfolding run
loop-k-init c = refl

pub loop-k-preserved : goal.loop-k-preserved
loop-k-preserved c = run_more (place _) _ _ c.loop-k.k refl refl c.loop-k.invariant

pub loop-ino-preserved : goal.loop-ino-preserved
unfolding filled at_of
loop-ino-preserved c =
    rows_more place _ 27 _ c.loop-ino.ino c.loop-k.k (omega arith) c.loop-ino.invariant
    (rw (c.as_flattened-entry-items.ensures.value, c.ddw_of_corner.ensures) at c.loop-k.invariant)

whole : (s : State) → filled s (along_of s.gd) (dndr_of binary64) 3 ≡ ddw_of binary64 s
unfolding filled block_of blocks_of ddw_of each run rows
whole s = refl

done : (s : State) {g n : List V2} {ddw : List Float} {ino : ℕ} → g ≡ along_of s.gd → n ≡ dndr_of binary64 → ino ≡ 3 → ddw ≡ filled s g n ino → ddw ≡ ddw_of binary64 s
done s eg en ei e = rw (eg, en, ei) at e ∙ whole s

pub returns : goal.returns
returns c = done _ c.along-g.ensures c.dndr.ensures (omega arith) c.loop-ino.invariant
