-- What holds of each element of a list, and of some: by induction, and how a test says it.
use mathlib.Core.Path.{◌≡◌, refl}
use mathlib.Core.Bool.{Bool, true, false, not, ◌&&◌, true≢false, and-false}
use mathlib.Core.List.{List, [], ◌∷◌, ◌++◌}
use mathlib.Core.Logic.{◌↔◌, inl, inr}
use Prim.Native.Nat.{ℕ, zero, suc}
use lib.ListN.{take, drop}
use Rattle.float.specs.Lists.{every, All, Some}

module _ {A : Type 0} (P : A → Type 0) where
  pub all_append : (l m : List A) → All P l → All P m → All P (l ++ m)
  all_append [] m h k = k
  all_append (a ∷ l) m h k = (h.0, all_append l m h.1 k)

  pub all_take : (i : ℕ) (l : List A) → All P l → All P (take i l)
  all_take zero l h = tt
  all_take (suc i) [] h = tt
  all_take (suc i) (a ∷ l) h = (h.0, all_take i l h.1)

  pub all_drop : (i : ℕ) (l : List A) → All P l → All P (drop i l)
  all_drop zero l h = h
  all_drop (suc i) [] h = tt
  all_drop (suc i) (a ∷ l) h = all_drop i l h.1

  -- each element lacks it where no element has it
  pub all_not : (l : List A) → (Some P l → ⊥) → All (λ a. P a → ⊥) l
  all_not [] h = tt
  all_not (a ∷ l) h = ((λ p. h (inl p)), all_not l (λ s. h (inr s)))

  -- where each element is P exactly if it is R, some element is P exactly if some is R
  module _ (R : A → Type 0) where
    there : (l : List A) → All (λ a. P a ↔ R a) l → Some P l → Some R l
    there [] h n = n
    there (a ∷ l) h (inl p) = inl (h.0.0 p)
    there (a ∷ l) h (inr p) = inr (there l h.1 p)

    back : (l : List A) → All (λ a. P a ↔ R a) l → Some R l → Some P l
    back [] h n = n
    back (a ∷ l) h (inl r) = inl (h.0.1 r)
    back (a ∷ l) h (inr r) = inr (back l h.1 r)

    pub some_iff : (l : List A) → All (λ a. P a ↔ R a) l → Some P l ↔ Some R l
    some_iff l h = (there l h, back l h)

pub all_of : {A : Type 0} {P : A → Type 0} → ((a : A) → P a) → (l : List A) → All P l
all_of h [] = tt
all_of h (a ∷ l) = (h a, all_of h l)

pub all_map : {A : Type 0} {P Q : A → Type 0} → ((a : A) → P a → Q a) → (l : List A) → All P l → All Q l
all_map h [] k = tt
all_map h (a ∷ l) k = (h a k.0, all_map h l k.1)

-- not every element fails a test exactly where some element passes it
module _ {A : Type 0} (p : A → Bool) where
  abbrev fails : List A → Bool
  fails l = every (λ a. not (p a)) l

  abbrev Passes : List A → Type 0
  Passes l = Some (λ a. p a ≡ true) l

  pub some_passes : (l : List A) → fails l ≡ false ↔ Passes l
  unfolding every
  some_passes [] = ((λ e. true≢false e), λ n. absurd n)
  some_passes (a ∷ l) = let rest = some_passes l in (first (p a) refl rest.0, last rest.1)
    where
      first : (b : Bool) → p a ≡ b → (fails l ≡ false → Passes l) → not b && fails l ≡ false → Passes (a ∷ l)
      first true h rest e = inl h
      first false h rest e = inr (rest e)

      last : (Passes l → fails l ≡ false) → Passes (a ∷ l) → not (p a) && fails l ≡ false
      last rest (inl h) = rw h
      last rest (inr h) = rw (rest h, and-false (not (p a)))
