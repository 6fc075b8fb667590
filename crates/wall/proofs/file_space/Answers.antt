-- `file_space` meets its contract: the length of a repeat is counted by a law, not out.
use mathlib.Core.Path.{sym}
use Prim.Native.Nat.{ℕ}
use lib.ListN.{length-replicate}
use Rattle.wall.proofs.file_space.Goals as goal

pub returns : goal.returns
returns c = sym (length-replicate {0} {A = ℕ} 4194682 0)
