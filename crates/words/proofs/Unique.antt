-- No second answer fits: the length and the bytes are those of the definition.
use mathlib.Core.Path.{◌≡◌}
use mathlib.Core.List.{List}
use Prim.Native.Nat.{ℕ}
use Rattle.float.proofs.Unique.{only}
use Rattle.words.specs.Words.{IsMeaning}

pub meaning : (number : ℕ) {r q : ℕ} {words other : List ℕ} → IsMeaning number r words → IsMeaning number q other → (r ≡ q) × (words ≡ other)
meaning number is also = (only is.0 also.0, only is.1 also.1)
