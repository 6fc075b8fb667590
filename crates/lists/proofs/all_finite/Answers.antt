-- A turn adds one run of four to the sums; at the end what is left over decides where their sum is finite.
use Rattle.std.proofs.Common.{◌/◌, ◌∙◌, length, sym, arith}
use Rattle.std.specs.Float.{binary64}
use Rattle.lists.proofs.Sums.{four_more, all_fours, run_length, rest_decides}
use Rattle.lists.proofs.all_finite.Goals as goal

pub loop-four-preserved : goal.loop-four-preserved
loop-four-preserved c =
    let xs = c.args.xs.now in
    let four = run_length 4 (length xs / 4) c.loop-four.four-index xs (omega arith) (omega arith) in
    four_more binary64 _ c.loop-four.four-index _ _ _ _ (omega arith) (rw c.as_chunks.ensures.front four) c.loop-four.invariant

pub returns-then-is_finite : goal.returns-then-is_finite
returns-then-is_finite c =
    let xs = c.args.xs.now in
    let fours = all_fours binary64 _ c.loop-four.four-index _ _ _ _ c.loop-four-test.false c.loop-four.invariant (sym c.is_finite.ensures ∙ c.if-is_finite.true) in
    c.each_finite.ensures ∙ rw c.as_chunks.ensures.back (rest_decides 4 (length xs / 4) xs (rw c.as_chunks.ensures.front at fours))
