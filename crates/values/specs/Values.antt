-- What is given for a kernel's answer: its number is returned, and the lent array holds its values one after the other, whatever was in it.
use Rattle.std.specs.Prelude.{◌≡◌, List, ◌∷◌, ◌++◌, ℕ, Float, replicate, Result, Ok, Err}
use Rattle.std.specs.Float.{binary64}
use Rattle.float.specs.Ops.{ops}
use Rattle.refusal.specs.Answers.{EnergyGiven}
use Rattle.refusal.specs.Numbers.{answer_number}
use Rattle.refusal.specs.declared.Refusal.{Refusal}
use Rattle.quadratic_bending.specs.Bending.{BendingGiven}
use Rattle.stvk_tri3.specs.Strain.{StrainGiven}

abbrev pub GivesBending : BendingGiven → (r : ℕ) (values : List Float) → Type 0
GivesBending a r values = (r ≡ a.number) × (values ≡ a.w ++ a.dwdp)

abbrev pub GivesStrain : StrainGiven → (r : ℕ) (values : List Float) → Type 0
GivesStrain a r values = (r ≡ a.number) × (values ≡ a.w ++ a.dw)

abbrev pub GivesEnergy : EnergyGiven → (r : ℕ) (values : List Float) → Type 0
GivesEnergy a r values = (r ≡ a.number) × (values ≡ a.w ∷ a.dw ++ a.ddw)

-- n places: an answer's values, or +0 throughout after a refusal
abbrev pub places_of : {A : Type 0} (n : ℕ) (flat : A → List Float) → Result A Refusal → List Float
places_of n flat (Ok a) = flat a
places_of n flat (Err refusal) = replicate n (ops binary64).zero

-- THE statement of `give`, for a type whose values are `flat` and take n places
abbrev pub IsGiven : {A : Type 0} (n : ℕ) (flat : A → List Float) (answer : Result A Refusal) (r : ℕ) (values : List Float) → Type 0
IsGiven n flat answer r values = (r ≡ answer_number answer) × (values ≡ places_of n flat answer)
