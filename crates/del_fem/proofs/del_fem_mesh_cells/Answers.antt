-- The product fits, since the count is within its limit.
use mathlib.Core.Path.{sym, ◌∙◌}
use native.Mathlib.Omega.{arith}
use Rattle.mesh.proofs.Bounds.{within}
use Rattle.del_fem.proofs.del_fem_mesh_cells.Goals as goal

pub overflow_mul-length : goal.overflow_mul-length
overflow_mul-length c = let known = within _ _ (sym c.read.ensures ∙ c.in-Ok.is) in omega (arith, known.3)
