-- Each turn stores an entry at its place, row by row.
use Rattle.std.proofs.Common.{◌≡◌, ℕ, ◌+◌, ◌*◌, replicate}
use Rattle.std.specs.Float.{binary64}
use Rattle.float.specs.Ops.{ops}
use Rattle.float.proofs.Fill.{run, rows}
use Rattle.stvk.specs.Stvk.{at_of, dw_at_of}
use Rattle.stvk.proofs.dw.Given as goal

abbrev pub place : ℕ → ℕ → ℕ
place ino idim = ino * 3 + idim

abbrev pub invariant-loop-idim : goal.invariant-loop-idim
invariant-loop-idim l = l.dw ≡ run (place l.ino) (λ idim. dw_at_of binary64 l.s.rest.area0 l.s.spkstress (at_of l.gi-items idim) l.ni) l.initial.dw l.idim

abbrev pub invariant-loop-ino : goal.invariant-loop-ino
invariant-loop-ino l =
    l.dw ≡ rows place (λ ino idim. dw_at_of binary64 l.s.rest.area0 l.s.spkstress (at_of l.g idim) (at_of l.ni-items ino)) 3 (replicate 9 (ops binary64).zero) l.ino
