-- It is the root of what the pattern stands for, written as a pattern.
use Rattle.std.specs.Float.{binary64}
use Rattle.root.proofs.RootOf.{answered_word}
use Rattle.root.proofs.sqrt_word.Goals as goal

pub returns : goal.returns
returns c = answered_word binary64 _ _ _ _ (rw c.sqrt.type_inv tt) c.of_word.ensures c.sqrt.ensures c.to_word.ensures
