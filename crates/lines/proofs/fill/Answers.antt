-- `fill` meets its contract: at each turn the text so far is written, and what is left of the template follows it.
use Rattle.lines.proofs.Filling.{begun, next_number, byte_put, number_put, nothing, room, done}
use lib.Ieee.{of_bits}
use Rattle.lines.proofs.fill.Goals as goal

pub loop-c-init : goal.loop-c-init
loop-c-init c = begun _ _ _ c.iter-left.ensures.rest

pub number-at-requires : goal.number-at-requires
number-at-requires c = room c.loop-c.invariant

pub byte-at-requires : goal.byte-at-requires
byte-at-requires c = room c.loop-c.invariant

pub loop-c-preserved-then-c-eq37 : goal.loop-c-preserved-then-c-eq37
unfolding of_bits
loop-c-preserved-then-c-eq37 c =
    number_put c.loop-c.invariant c.in-Some.ensures.cases.0 c.if-c-eq37.true c.digit-p.ensures.0 c.digit-k.ensures.0 c.digit-tens.ensures.0 c.digit-ones.ensures.0 c.min.ensures
    (rw (c.unwrap_or-x.ensures, c.copied.ensures) (next_number _ _ _ c.next.ensures.steps)) c.number-at.ensures

pub loop-c-preserved : goal.loop-c-preserved
loop-c-preserved c = byte_put c.loop-c.invariant c.in-Some.ensures.cases.0 c.if-c-eq37.false c.byte-at.ensures

pub returns : goal.returns
returns c = done c.loop-c.invariant (nothing _ c.in_default.ensures.cases)
