-- Each turn stores a corner's factor at its place; what no turn has reached stays +0.
use Rattle.std.proofs.Common.{◌≡◌, ℕ, ◌+◌, ◌*◌, replicate}
use Rattle.std.specs.Float.{binary64}
use Rattle.float.specs.Lists.{◌!◌}
use Rattle.float.specs.Ops.{ops}
use Rattle.float.proofs.Fill.{run, rows}
use Rattle.bending.proofs.dwdp.Given as goal

abbrev pub place : ℕ → ℕ → ℕ
place i_dim node = (i_dim * 4 + node) * 3 + i_dim

abbrev pub invariant-loop-node : goal.invariant-loop-node
invariant-loop-node l = l.dwdp ≡ run (place l.i_dim) (λ n. l.fn.k ! n) l.initial.dwdp l.node

abbrev pub invariant-loop-i_dim : goal.invariant-loop-i_dim
invariant-loop-i_dim l = l.dwdp ≡ rows place (λ i n. l.fn.k ! n) 4 (replicate 36 (ops binary64).zero) l.i_dim
