-- Each turn stores an entry at its place, row by row.
use Rattle.std.proofs.Common.{◌≡◌, ℕ, ◌+◌, ◌*◌, ◌/◌, ◌%◌, List, replicate}
use Rattle.std.specs.Float.{Float, binary64}
use Rattle.float.specs.Lists.{◌!◌}
use Rattle.float.specs.Ops.{ops}
use Rattle.float.proofs.Fill.{run, rows}
use Rattle.plate.specs.Parts.{row_of}
use Rattle.plate.specs.declared.Dstrains.{Dstrains}
use Rattle.plate.specs.declared.State.{State}
use Rattle.plate.proofs.ddw.Given as goal

abbrev pub place : ℕ → ℕ → ℕ
place i j = (i / 3 * 3 + j / 3) * 9 + i % 3 * 3 + j % 3

unfoldable pub filled : State → Dstrains → ℕ → List Float
filled s d = rows place (λ i j. row_of binary64 s d i ! j) 9 (replicate 81 (ops binary64).zero)

abbrev pub invariant-loop-j : goal.invariant-loop-j
invariant-loop-j l = l.ddw ≡ run (place l.i) (λ j. l.entry-items ! j) l.initial.ddw l.j

abbrev pub invariant-loop-i : goal.invariant-loop-i
invariant-loop-i l = l.ddw ≡ filled l.s l.dstrains l.i
