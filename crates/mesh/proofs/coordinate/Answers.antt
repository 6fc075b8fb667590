-- `coordinate`: where the block has the point, the eight bytes are those at its place.
use Rattle.std.proofs.Common.{◌∙◌}
use Rattle.mesh.proofs.HandedBack.{outside_by, coordinate_read, coordinate_outside}
use Rattle.mesh.proofs.coordinate.Goals as goal

pub returns-then-points-point : goal.returns-then-points-point
returns-then-points-point c = c.of_word.ensures ∙ coordinate_outside _ _ _ (outside_by c.then-points-point.either)

pub returns : goal.returns
returns c = c.of_word-2.ensures ∙ coordinate_read c.args.points.now c.args.point c.args.axis c.if-points-point.false c.if-axis-ge3.false (rw c.as_chunks.ensures.front at c.from_be_bytes.ensures)
