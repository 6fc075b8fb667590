-- Each turn stores an entry at its place, corner by corner.
use Rattle.std.proofs.Common.{◌≡◌, ℕ, ◌+◌, ◌*◌, List, replicate}
use Rattle.std.specs.Float.{Float, binary64}
use Rattle.std.specs.List.{flat_map}
use Rattle.float.specs.Lists.{◌!◌}
use Rattle.float.specs.Ops.{ops}
use Rattle.float.proofs.Fill.{run, rows}
use Rattle.del_geo_core.specs.declared.tri2.V2.{V2}
use Rattle.stvk.specs.Stvk.{at_of}
use Rattle.stvk.specs.Parts.{blocks_of}
use Rattle.stvk.specs.declared.State.{State}
use Rattle.stvk.proofs.ddw.Given as goal

abbrev pub place : ℕ → ℕ → ℕ
place ino k = ino * 27 + k

unfoldable pub filled : State → (g n : List V2) → ℕ → List Float
filled s g n = rows place (λ ino k. flat_map (λ b. b) (blocks_of binary64 s g (at_of n ino)) ! k) 27 (replicate 81 (ops binary64).zero)

abbrev pub invariant-loop-k : goal.invariant-loop-k
invariant-loop-k l = l.ddw ≡ run (place l.ino) (λ k. l.entry-items ! k) l.initial.ddw l.k

abbrev pub invariant-loop-ino : goal.invariant-loop-ino
invariant-loop-ino l = l.ddw ≡ filled l.s l.g l.ni-items l.ino
