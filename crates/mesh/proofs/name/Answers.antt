-- `name`: where the block has the triangle, the number is the one at the corner's place.
use Rattle.mesh.proofs.HandedBack.{outside_by, name_read, name_outside}
use Rattle.mesh.proofs.name.Goals as goal

pub returns-then-cells-triangle : goal.returns-then-cells-triangle
returns-then-cells-triangle c = name_outside _ _ _ (outside_by c.then-cells-triangle.either)

pub returns : goal.returns
returns c = name_read c.args.cells.now c.args.triangle c.args.corner c.if-cells-triangle.false c.if-corner-ge3.false (rw c.as_chunks.ensures.front at c.number.ensures)
