-- `dwdp` meets its contract: three rows of four stores are the definition, place by place.
use Rattle.std.proofs.Common.{◌≡◌, refl, arith}
use Rattle.float.specs.Lists.{◌!◌, table, each}
use Rattle.float.proofs.Fill.{run, rows, run_more, rows_more}
use Rattle.bending.specs.Bending.{dwdp_of}
use Rattle.bending.proofs.dwdp.Goals as goal
use Rattle.bending.proofs.dwdp.Invariants.{place}

pub loop-i_dim-init : goal.loop-i_dim-init
unfolding rows
loop-i_dim-init c = refl

pub loop-node-init : goal.loop-node-init
unfolding run
loop-node-init c = refl

pub loop-node-preserved : goal.loop-node-preserved
loop-node-preserved c = run_more (place _) _ _ c.loop-node.node refl refl c.loop-node.invariant

pub loop-i_dim-preserved : goal.loop-i_dim-preserved
loop-i_dim-preserved c = rows_more place (λ i n. c.args.k ! n) 4 _ c.loop-i_dim.i_dim c.loop-node.node (omega arith) c.loop-i_dim.invariant c.loop-node.invariant

pub returns : goal.returns
unfolding dwdp_of table each run rows
returns c = let e : c.loop-i_dim.i_dim ≡ 3 = omega arith in rw e at c.loop-i_dim.invariant
