-- `read`: what is found, with no more than the place.
use Rattle.std.proofs.Common.{◌∙◌}
use Rattle.mesh.proofs.Found.{placed_by, read_lem}
use Rattle.mesh.proofs.read.Goals as goal

pub returns : goal.returns
returns c = placed_by (λ misread place h. h) _ c.map_err.ensures.cases ∙ rw c.read_parts.ensures (read_lem c.args.file.now)
