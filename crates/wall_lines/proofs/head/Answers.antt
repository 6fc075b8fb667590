-- `head` meets its contract: what its calls ensure, put in one after the other, is the definition.
use Rattle.wall_lines.proofs.head.Goals as goal

pub returns : goal.returns
returns c = rw (← c.extent-e.ensures, ← c.points_count.ensures, ← c.count.ensures, ← c.triangles_count.ensures, ← c.count-2.ensures, ← c.area.ensures, ← c.total_mass.ensures, ← c.idle.ensures, ← c.count-3.ensures) c.fill.ensures
