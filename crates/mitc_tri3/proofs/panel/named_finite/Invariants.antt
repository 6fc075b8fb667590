-- What was seen so far and what is left pass exactly when the whole list does.
use Rattle.std.proofs.Common.{◌≡◌, ◌&&◌, drop}
use Rattle.places.specs.Plane.{named_finite}
use Rattle.mitc_tri3.proofs.panel.named_finite.Given as goal

abbrev pub invariant-loop-i : goal.invariant-loop-i
invariant-loop-i l = (l.ok && named_finite (drop l.i-index l.fn.tri2vtx) l.fn.vtx2xy) ≡ named_finite l.fn.tri2vtx l.fn.vtx2xy
