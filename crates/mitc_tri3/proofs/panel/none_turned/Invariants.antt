-- Whether a triangle turns right is left to those from the loop's place on.
use Rattle.std.proofs.Common.{◌≡◌, ◌*◌, drop}
use Rattle.std.specs.Float.{binary64}
use Rattle.mitc_tri3.specs.Masses.{none_turned}
use Rattle.mitc_tri3.proofs.panel.none_turned.Given as goal

abbrev pub invariant-loop-i0 : goal.invariant-loop-i0
invariant-loop-i0 l = none_turned binary64 (drop (l.i0-index * 3) l.fn.tri2vtx) l.fn.vtx2xy ≡ none_turned binary64 l.fn.tri2vtx l.fn.vtx2xy
