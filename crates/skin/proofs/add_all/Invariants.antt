-- The triangles from `place` on, added to what there is, give what all of them give, and none before is refused.
use Rattle.std.proofs.Common.{◌≡◌, ◌/◌, length}
use Rattle.std.specs.Float.{binary64}
use Rattle.std.specs.Simd.{first_chunks}
use Rattle.skin.specs.Skin.{answer_of}
use Rattle.skin.proofs.Sum.{Left}
use Rattle.skin.proofs.add_all.Given as goal

abbrev pub invariant-loop-place : goal.invariant-loop-place
invariant-loop-place l =
    (l.triangles ≡ first_chunks 3 (length l.fn.tri2vtx / 3) l.fn.tri2vtx)
    × Left binary64 (answer_of binary64 l.fn.vtx2ini l.fn.vtx2def l.fn.material.stiffness) l.fn.tri2vtx l.initial.vtx2dw l.place l.w l.vtx2dw
