-- The first that refuses, and its place: by induction on the numbers.
use mathlib.Core.Path.{◌≡◌, refl, sym, ap, ◌∙◌}
use mathlib.Core.Bool.{false}
use mathlib.Core.List.{List, [], ◌∷◌}
use mathlib.Core.Logic.{◌↔◌}
use Prim.Native.Nat.{ℕ, zero, suc, ◌+◌, ◌*◌, ◌/◌, ◌%◌, ◌<◌}
use native.Mathlib.Omega.{arith}
use lib.Dec.{eqb}
use lib.ListN.{length, get_or}
use borrow.Author.Count.{below_more}
use borrow.Author.Tests.{ne_eqb}
use Rattle.float.specs.Lists.{map_threes}
use Rattle.float.proofs.Fold.{map_at}
use Rattle.refusal.specs.Refusal.{accepted}
use Rattle.refusal.specs.Listed.{first_refusal, first_place, FirstAt, NoneRefused}

refuses : (m : ℕ) → eqb (suc m) accepted ≡ false
refuses m = ne_eqb (suc m) accepted (λ (e : suc m ≡ accepted). omega arith)

-- none of the first k refuses: what a loop that stops at the first refusal keeps
abbrev pub Passed : (numbers : List ℕ) (k : ℕ) → Type 0
Passed numbers k = (j : ℕ) → j < k → get_or numbers j accepted ≡ accepted

pub all_passed : (numbers : List ℕ) → Passed numbers (length numbers) → NoneRefused numbers
all_passed [] p j = refl
all_passed (n ∷ numbers) p zero = p 0 (omega arith)
all_passed (n ∷ numbers) p (suc j) = all_passed numbers (λ j h. p (suc j) (omega arith)) j

module _ (n : ℕ) (z : n ≡ accepted → ⊥) where
  found : (numbers : List ℕ) (k : ℕ) → first_refusal numbers ≡ n → first_place numbers ≡ k → FirstAt numbers k n
  unfolding first_refusal first_place
  found [] k e g = absurd (z (sym e))
  found (zero ∷ numbers) zero e g = absurd (omega arith)
  found (zero ∷ numbers) (suc k) e g = let at = found numbers k e (omega arith) in (at.0, before at)
    where
      before : FirstAt numbers k n → (j : ℕ) → j < suc k → get_or (zero ∷ numbers) j accepted ≡ accepted
      before at zero h = refl
      before at (suc j) h = at.1 j (omega arith)
  found (suc m ∷ numbers) zero e g = (rw (refuses m) at e, λ j h. absurd (omega arith))
  found (suc m ∷ numbers) (suc k) e g = absurd (omega (arith, rw (refuses m) at g))

  given : (numbers : List ℕ) (k : ℕ) → FirstAt numbers k n → (first_refusal numbers ≡ n) × (first_place numbers ≡ k)
  unfolding first_refusal first_place
  given [] k (e, b) = absurd (z (sym e))
  given (zero ∷ numbers) zero (e, b) = absurd (z (sym e))
  given (zero ∷ numbers) (suc k) (e, b) = let is = given numbers k (e, λ j h. b (suc j) (omega arith)) in (is.0, ap suc is.1)
  given (suc m ∷ numbers) zero (e, b) = rw (refuses m) (e, refl)
  given (suc m ∷ numbers) (suc k) (e, b) = absurd (omega (arith, b 0 (omega arith)))

  -- THE law of the first that refuses
  pub first_exactly : (numbers : List ℕ) (k : ℕ) → ((first_refusal numbers ≡ n) × (first_place numbers ≡ k)) ↔ FirstAt numbers k n
  first_exactly numbers k = ((λ h. found numbers k h.0 h.1), given numbers k)

all : (numbers : List ℕ) → first_refusal numbers ≡ accepted → NoneRefused numbers
unfolding first_refusal
all [] e j = refl
all (zero ∷ numbers) e zero = refl
all (zero ∷ numbers) e (suc j) = all numbers e j
all (suc m ∷ numbers) e j = absurd (omega (arith, rw (refuses m) at e))

none : (numbers : List ℕ) → NoneRefused numbers → first_refusal numbers ≡ accepted
unfolding first_refusal
none [] h = refl
none (zero ∷ numbers) h = none numbers (λ j. h (suc j))
none (suc m ∷ numbers) h = rw (refuses m) (h 0)

pub none_exactly : (numbers : List ℕ) → first_refusal numbers ≡ accepted ↔ NoneRefused numbers
none_exactly numbers = (all numbers, none numbers)

pub none_place : (numbers : List ℕ) → first_refusal numbers ≡ accepted → first_place numbers ≡ length numbers
unfolding first_refusal first_place
none_place [] e = refl
none_place (zero ∷ numbers) e = ap suc (none_place numbers e)
none_place (suc m ∷ numbers) e = absurd (omega (arith, rw (refuses m) at e))

-- answers, one for three names each: that of the names from i on, and how one more is passed
module _ {A : Type 0} (g : A → A → A → ℕ) (l : List A) (i : ℕ) (d : A) (whole : i % 3 ≡ 0) (inside : i + 2 < length l) where
  abbrev here : ℕ
  here = g (get_or l i d) (get_or l (i + 1) d) (get_or l (i + 2) d)

  pub threes_here : get_or (map_threes g l) (i / 3) accepted ≡ here
  threes_here = let at : i / 3 * 3 ≡ i = omega arith in rw at at (map_at g l (i / 3) d accepted (rw at inside))

  pub threes_passed : Passed (map_threes g l) (i / 3) → here ≡ accepted → Passed (map_threes g l) ((i + 3) / 3)
  threes_passed p z =
      let next : (i + 3) / 3 ≡ i / 3 + 1 = omega arith in
      rw next (below_more (λ j. get_or (map_threes g l) j accepted ≡ accepted) (i / 3) p (threes_here ∙ z))

-- their first refusal: above m where every answer that refuses is
pub threes_above : {A : Type 0} (g : A → A → A → ℕ) (m : ℕ) → ((x y z : A) → (g x y z ≡ accepted → ⊥) → m < g x y z) → (l : List A)
    → (first_refusal (map_threes g l) ≡ accepted → ⊥) → m < first_refusal (map_threes g l)
unfolding first_refusal map_threes
threes_above g m above (x ∷ y ∷ z ∷ l) some = here (g x y z) (above x y z) (threes_above g m above l) some
  where
    here : (n : ℕ) → ((n ≡ accepted → ⊥) → m < n) → ((first_refusal (map_threes g l) ≡ accepted → ⊥) → m < first_refusal (map_threes g l))
        → (first_refusal (n ∷ map_threes g l) ≡ accepted → ⊥) → m < first_refusal (n ∷ map_threes g l)
    here zero h rest some = rest some
    here (suc n) h rest some = rw (refuses n) (h (λ (e : suc n ≡ accepted). omega arith))
threes_above g m above (x ∷ y ∷ []) some = absurd (some refl)
threes_above g m above (x ∷ []) some = absurd (some refl)
threes_above g m above [] some = absurd (some refl)
