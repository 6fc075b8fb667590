-- Three elements at a time: the chunk at k has those from 3 k on.
use mathlib.Core.Path.{◌≡◌, refl}
use mathlib.Core.List.{List, [], ◌∷◌}
use Prim.Native.Nat.{ℕ, zero, suc, ◌+◌, ◌*◌, ◌/◌, ◌≤◌, ◌<◌}
use native.Mathlib.Nat.{not-suc-le-zero}
use native.Mathlib.Omega.{arith}
use lib.ListN.{length, get_or}
use Rattle.std.specs.Simd.{first_chunks}

abbrev pub three_from : {A : Type 0} → List A → ℕ → A → List A
three_from xs i d = get_or xs i d ∷ get_or xs (i + 1) d ∷ get_or xs (i + 2) d ∷ []

pub chunk_at : {A : Type 0} (n : ℕ) (xs : List A) (k : ℕ) (d : A) (e : List A) → n * 3 ≤ length xs → k < n → get_or (first_chunks 3 n xs) k e ≡ three_from xs (k * 3) d
chunk_at zero xs k d e fits less = absurd (not-suc-le-zero less)
chunk_at (suc n) (x ∷ y ∷ z ∷ xs) zero d e fits less = refl
chunk_at (suc n) (x ∷ y ∷ z ∷ xs) (suc k) d e fits less =
    let third : suc k * 3 + 2 ≡ suc (suc (suc (k * 3 + 2))) = omega arith in
    let second : suc k * 3 + 1 ≡ suc (suc (suc (k * 3 + 1))) = omega arith in
    let first : suc k * 3 ≡ suc (suc (suc (k * 3))) = omega arith in
    rw (third, second, first) (chunk_at n xs k d e (omega arith) (omega arith))
chunk_at (suc n) [] k d e fits less = absurd (omega (arith, fits))
chunk_at (suc n) (x ∷ []) k d e fits less = absurd (omega (arith, fits))
chunk_at (suc n) (x ∷ y ∷ []) k d e fits less = absurd (omega (arith, fits))

-- what a loop over the chunks of three takes at k
pub at_chunk : {A : Type 0} (chunks : List (List A)) (xs : List A) (k : ℕ) (d : A) → chunks ≡ first_chunks 3 (length xs / 3) xs → k < length xs / 3 → get_or chunks k [] ≡ three_from xs (k * 3) d
at_chunk chunks xs k d e less = rw e (chunk_at (length xs / 3) xs k d [] (omega arith) less)
