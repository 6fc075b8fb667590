-- The number and the place of a call over a list (01-scope 2.5): what is tested early; then, of its answers one after the other, the first that is refused; then what is tested late.
use Rattle.std.specs.Prelude.{◌≡◌, cond, List, [], ◌∷◌, ◌↔◌, ◌⊎◌, ℕ, suc, ◌<◌, eqb, length, get_or}
use Rattle.refusal.specs.Refusal.{accepted, Row, first_of, Cause, Clear}

-- of these numbers the first that refuses, 0 where none does
unfoldable pub first_refusal : List ℕ → ℕ
first_refusal [] = accepted
first_refusal (n ∷ numbers) = cond (eqb n accepted) (first_refusal numbers) n

-- where it stands, counted from 0; how many there are where none refuses
unfoldable pub first_place : List ℕ → ℕ
first_place [] = 0
first_place (n ∷ numbers) = cond (eqb n accepted) (suc (first_place numbers)) 0

module _ (early : List Row) (numbers : List ℕ) (late : List Row) where
  unfoldable pub listed_number : ℕ
  listed_number = first_refusal (first_of early ∷ first_refusal numbers ∷ first_of late ∷ [])

  -- how many there are where what is tested late refuses; 0 where nothing does, and where what is tested early does
  unfoldable pub listed_place : ℕ
  listed_place = cond (eqb (first_of early) accepted) (cond (eqb listed_number accepted) 0 (first_place numbers)) 0

abbrev pub NoneRefused : List ℕ → Type 0
NoneRefused numbers = (j : ℕ) → get_or numbers j accepted ≡ accepted

-- at k stands n, and before it nothing that refuses
abbrev pub FirstAt : List ℕ → (k n : ℕ) → Type 0
FirstAt numbers k n = (get_or numbers k accepted ≡ n) × ((j : ℕ) → j < k → get_or numbers j accepted ≡ accepted)

-- why n is given, and for which place
abbrev pub ListedCause : (n k : ℕ) (early : List Row) (numbers : List ℕ) (late : List Row) → Type 0
ListedCause n k early numbers late =
    (Cause n early × (k ≡ 0)) ⊎ (Clear early × (FirstAt numbers k n ⊎ (NoneRefused numbers × Cause n late × (k ≡ length numbers))))

-- each number is given, and for which place, exactly where its cause comes first
pub record ListedExactly (number place : ℕ) (early : List Row) (numbers : List ℕ) (late : List Row) : Type 0 where
  pub refused_exactly : (n k : ℕ) → (n ≡ accepted → ⊥) → ((number ≡ n) × (place ≡ k)) ↔ ListedCause n k early numbers late
  pub accepted_exactly : number ≡ accepted ↔ (Clear early × NoneRefused numbers × Clear late)
  pub no_place : number ≡ accepted → place ≡ 0
