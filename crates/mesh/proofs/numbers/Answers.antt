-- `numbers`: a number is passed, or it is wrong, or the file ends in it.
use Rattle.std.proofs.Common.{◌≡◌, ◌+◌, ◌-◌, ◌*◌, ◌<◌, length, arith, sym, ◌∙◌, ap}
use Rattle.std.proofs.Math.ListN.{length-drop}
use Rattle.mesh.specs.Items.{right}
use Rattle.mesh.proofs.Item.{ok_at, err_at}
use Rattle.mesh.proofs.Scans.{numbers_done, numbers_ended, numbers_wrong, numbers_more, tail}
use Rattle.mesh.proofs.numbers.Goals as goal

pub loop-i-init : goal.loop-i-init
loop-i-init c =
    let all : c.args.k - 0 ≡ c.args.k = omega arith in
    let here : c.args.at + 4 * 0 ≡ c.args.at = omega arith in
    record { left = rw (tail c.args.file.now c.args.at, length-drop) (omega arith); answer = rw (all, here, tail c.args.file.now c.args.at) }

pub returns-in_default : goal.returns-in_default
returns-in_default c =
    let short : length c.loop-i.rest.now < 4 = c.in_default.ensures.cases in
    sym (numbers_ended c.args.rule c.args.k c.loop-i.i _ c.loop-i.rest.now c.loop-i-test.true short ∙ err_at c.loop-i.invariant.left) ∙ c.loop-i.invariant.answer

pub returns-then-not-right : goal.returns-then-not-right
returns-then-not-right c =
    let split = c.in-Some.ensures.cases in
    let wrong = sym (rw split.0 at (ap (right c.args.rule c.loop-i.i) c.number.ensures)) ∙ sym c.right.ensures ∙ c.if-not-right.true in
    sym (numbers_wrong c.args.rule c.args.k c.loop-i.i _ c.loop-i.rest.now c.loop-i-test.true (omega arith) wrong) ∙ c.loop-i.invariant.answer

pub loop-i-preserved : goal.loop-i-preserved
loop-i-preserved c =
    let split = c.in-Some.ensures.cases in
    let place : c.args.at + 4 * c.loop-i.i + 4 ≡ c.args.at + 4 * (c.loop-i.i + 1) = omega arith in
    let fine = sym (rw split.0 at (ap (right c.args.rule c.loop-i.i) c.number.ensures)) ∙ sym c.right.ensures ∙ c.if-not-right.false in
    let more = numbers_more c.args.rule c.args.k c.loop-i.i (c.args.at + 4 * c.loop-i.i) c.loop-i.rest.now c.loop-i-test.true (omega arith) fine in
    record { left = omega arith; answer = sym (rw (place, ← split.1) at more) ∙ c.loop-i.invariant.answer }

pub returns : goal.returns
returns c =
    let end : c.args.at + 4 * c.loop-i.i ≡ c.args.at + 4 * c.args.k = omega arith in
    sym (numbers_done c.args.rule c.args.k c.loop-i.i _ c.loop-i.rest.now c.loop-i-test.false ∙ ok_at 0 end) ∙ c.loop-i.invariant.answer
