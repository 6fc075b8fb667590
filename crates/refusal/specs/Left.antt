-- What is left in a lent buffer (01-scope 2.1, 2.5): what was made where nothing is refused; after a number that keeps it, what was in it; after any other +0 throughout.
use Rattle.std.specs.Prelude.{Bool, cond, List, ℕ, eqb, Float}
use Rattle.std.specs.Float.{Format}
use Rattle.float.specs.Lists.{cleared}
use Rattle.refusal.specs.Refusal.{accepted}

unfoldable pub left_of : (f : Format) (keeps : ℕ → Bool) (number : ℕ) (made before : List Float) → List Float
left_of f keeps number made before = cond (eqb number accepted) made (cond (keeps number) before (cleared f before))
