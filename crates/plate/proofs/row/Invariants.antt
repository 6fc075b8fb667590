-- Each turn stores an entry at its place.
use Rattle.std.proofs.Common.{◌≡◌, ℕ, List, replicate}
use Rattle.std.specs.Float.{Float, binary64}
use Rattle.float.specs.Ops.{ops}
use Rattle.float.proofs.Fill.{run}
use Rattle.plate.specs.Parts.{columns_of, ddw_at_of}
use Rattle.plate.specs.declared.Dstrain.{Dstrain}
use Rattle.plate.specs.declared.Dstrains.{Dstrains}
use Rattle.plate.specs.declared.State.{State}
use Rattle.plate.proofs.row.Given as goal

abbrev pub filled : State → Dstrains → (di : Dstrain) → ℕ → List Float
filled s d di = run (λ j. j) (λ j. ddw_at_of binary64 s di (columns_of d j)) (replicate 9 (ops binary64).zero)

abbrev pub invariant-loop-j : goal.invariant-loop-j
invariant-loop-j l = l.row ≡ filled l.s l.dstrains l.di l.j
