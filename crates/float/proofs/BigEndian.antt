-- The library's numbers from bytes are `big_endian`: a list of four bytes, and of eight, is its bytes one after the other.
use Rattle.std.proofs.Common.{◌≡◌, ℕ, List, [], ◌∷◌, length, arith}
use Rattle.std.specs.Int.{w32, w64, from_be_bytes}
use Rattle.float.specs.Lists.{fold}
use Rattle.float.specs.Numbers.{big_endian}

pub of_four : (l : List ℕ) → length l ≡ 4 → from_be_bytes w32 l ≡ big_endian l
unfolding big_endian fold
of_four (a ∷ b ∷ c ∷ d ∷ []) h = omega arith
of_four _ h = absurd (omega arith)

pub of_eight : (l : List ℕ) → length l ≡ 8 → from_be_bytes w64 l ≡ big_endian l
unfolding big_endian fold
of_eight (a ∷ b ∷ c ∷ d ∷ e ∷ f ∷ g ∷ h ∷ []) n = omega arith
of_eight _ n = absurd (omega arith)
