-- `numeral` meets its contract: a turn puts the last digit of what is left, and then come the point and the whole part.
use Rattle.std.proofs.Common.{◌∙◌, arith}
use Rattle.decimal.proofs.Digits.{with_point, all_fits, begun, room, digit_put, point_put, point_room}
use Rattle.decimal.proofs.text.Text.numeral.Goals as goal

pub loop-init : goal.loop-init
loop-init c = begun _ _ _ _ (omega arith)

pub put-requires : goal.put-requires
put-requires c = room c.loop.invariant (omega arith) (all_fits _ _ _ c.if-k-eq0.false c.requires)

pub loop-preserved : goal.loop-preserved
loop-preserved c = rw c.put.ensures (digit_put c.loop.invariant _ (omega arith))

pub put-requires-2 : goal.put-requires-2
put-requires-2 c = omega (arith, point_room c.loop.invariant (omega arith) (all_fits _ _ _ c.if-k-eq0.false c.requires))

pub whole-requires-2 : goal.whole-requires-2
whole-requires-2 c = rw c.put-2.ensures (omega (arith, point_room c.loop.invariant (omega arith) (all_fits _ _ _ c.if-k-eq0.false c.requires)))

pub returns : goal.returns
returns c = c.whole-2.ensures ∙ rw (c.put-2.ensures, with_point _ _ c.if-k-eq0.false) (point_put c.loop.invariant (omega arith))
