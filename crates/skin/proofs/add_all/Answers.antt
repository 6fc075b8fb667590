-- `skin::add_all` meets its contract: the first triangle that is refused is the first of all, and where none is the sums are those of all.
use mathlib.Core.Path.{◌≡◌, refl, sym}
use Prim.Native.Nat.{◌/◌, ◌≤◌, ◌<◌}
use native.Mathlib.Omega.{arith}
use lib.Ieee.{binary64}
use lib.ListN.{length}
use Rattle.std.specs.Prelude.{Ok, Err}
use Rattle.float.proofs.Chunks.{at_chunk}
use Rattle.refusal.specs.Answers.{energy_given}
use Rattle.refusal.proofs.Numbered.{refuses}
use Rattle.skin.proofs.SkinAnswer.{stvk_above, sized}
use Rattle.skin.proofs.Sum.{start, asked, refused_here, next, sum_refused, all_accepted}
use Rattle.skin.proofs.add_all.Goals as goal

pub loop-place-init : goal.loop-place-init
loop-place-init c = (c.as_chunks.ensures.front, start binary64 _ _ _ (sized _ _ _ _ c.requires.0).0)

pub answer-requires-clause-vtx2def_len : goal.answer-requires-clause-vtx2def_len
answer-requires-clause-vtx2def_len c =
    let h : c.loop-place.place < length c.args.tri2vtx.now / 3 = rw c.as_chunks.ensures.front_len at c.loop-place-test.true in
    (asked _ _ _ _ c.requires c.loop-place.place h).0

pub answer-requires-clause-i0_in_bounds : goal.answer-requires-clause-i0_in_bounds
answer-requires-clause-i0_in_bounds c =
    let h : c.loop-place.place < length c.args.tri2vtx.now / 3 = rw c.as_chunks.ensures.front_len at c.loop-place-test.true in
    rw (at_chunk _ _ _ 0 c.as_chunks.ensures.front h) (asked _ _ _ _ c.requires c.loop-place.place h).1.0

pub answer-requires-clause-i1_in_bounds : goal.answer-requires-clause-i1_in_bounds
answer-requires-clause-i1_in_bounds c =
    let h : c.loop-place.place < length c.args.tri2vtx.now / 3 = rw c.as_chunks.ensures.front_len at c.loop-place-test.true in
    rw (at_chunk _ _ _ 0 c.as_chunks.ensures.front h) (asked _ _ _ _ c.requires c.loop-place.place h).1.1.0

pub answer-requires-clause-i2_in_bounds : goal.answer-requires-clause-i2_in_bounds
answer-requires-clause-i2_in_bounds c =
    let h : c.loop-place.place < length c.args.tri2vtx.now / 3 = rw c.as_chunks.ensures.front_len at c.loop-place-test.true in
    rw (at_chunk _ _ _ 0 c.as_chunks.ensures.front h) (asked _ _ _ _ c.requires c.loop-place.place h).1.1.1

pub returns-in-Err : goal.returns-in-Err
returns-in-Err c =
    let h : c.loop-place.place < length c.args.tri2vtx.now / 3 = rw c.as_chunks.ensures.front_len at c.loop-place-test.true in
    refused_here binary64 _ _ _ _ c.args.vtx2dw.now c.requires (stvk_above binary64 _ _ _) c.loop-place.vtx2dw (omega arith)
    c.clear-in-Err.ensures c.loop-place.place h {e = energy_given binary64 (Err c.in-Err.refusal)} (rw (at_chunk _ _ _ 0 c.as_chunks.ensures.front h) at c.in-Err.ensures)
    (λ z. omega (arith, refuses c.in-Err.refusal)) c.loop-place.invariant.1.passed

pub loop-place-preserved : goal.loop-place-preserved
loop-place-preserved c =
    let h : c.loop-place.place < length c.args.tri2vtx.now / 3 = rw c.as_chunks.ensures.front_len at c.loop-place-test.true in (
      c.as_chunks.ensures.front,
      next binary64 _ _ _ _ c.args.vtx2dw.now c.requires c.loop-place.invariant.1 (omega arith) h {e = energy_given binary64 (Ok c.in-Ok.e)}
          (rw (at_chunk _ _ _ 0 c.as_chunks.ensures.front h) at c.in-Ok.ensures) refl (rw (at_chunk _ _ _ 0 c.as_chunks.ensures.front h) at c.add_gradient.ensures),
    )

pub returns-then-bad_sum : goal.returns-then-bad_sum
returns-then-bad_sum c =
    let h : length c.args.tri2vtx.now / 3 ≤ c.loop-place.place = rw c.as_chunks.ensures.front_len at c.loop-place-test.false in
    let place : length c.as_chunks.result.0.now ≡ c.loop-place.place = omega arith in
    rw place (sum_refused binary64 _ _ _ _ c.args.vtx2dw.now c.requires c.loop-place.invariant.1 (omega arith) h c.clear.ensures
    (stvk_above binary64 _ _ _) (sym c.if-bad_sum.ensures) c.clear-then-bad_sum.ensures)

pub returns : goal.returns
returns c =
    let h : length c.args.tri2vtx.now / 3 ≤ c.loop-place.place = rw c.as_chunks.ensures.front_len at c.loop-place-test.false in
    all_accepted binary64 _ _ _ _ c.args.vtx2dw.now c.requires c.loop-place.invariant.1 (omega arith) h c.clear.ensures (sym c.if-bad_sum.ensures)
