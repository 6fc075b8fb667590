-- `cells_from`: what follows the block begins in the file.
use Rattle.std.proofs.Common.{sym, ◌∙◌}
use Rattle.mesh.proofs.Bounds.{closed_within}
use Rattle.mesh.proofs.cells_from.Goals as goal

pub cells_count-requires : goal.cells_count-requires
cells_count-requires c = closed_within _ _ _ _ (sym c.closed.ensures ∙ c.in_ok-a.was)
