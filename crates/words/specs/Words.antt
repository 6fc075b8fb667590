-- How words fill a lent array.
use Rattle.std.specs.Prelude.{◌≡◌, List, ℕ, length, get_or}
use Rattle.float.specs.Lists.{table}
use Rattle.refusal.specs.Meanings.{meanings, lookup}

-- r is the text's length, and the n bytes lent are the text and then zeros
abbrev pub Says : (n : ℕ) (text : List ℕ) (r : ℕ) (words : List ℕ) → Type 0
Says n text r words = (r ≡ length text) × (words ≡ table n (λ i. get_or text i 0))

-- THE statement of `meaning`
abbrev pub IsMeaning : (number r : ℕ) (words : List ℕ) → Type 0
IsMeaning number = Says 64 (lookup meanings number)
