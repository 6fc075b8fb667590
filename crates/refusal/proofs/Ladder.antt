-- A number is given exactly where a row of it is the first whose test holds: by induction on the rows.
use mathlib.Core.Path.{◌≡◌, refl, sym}
use mathlib.Core.Bool.{Bool, true, false, cond, not, true≢false, false≢true}
use mathlib.Core.List.{List, [], ◌∷◌}
use mathlib.Core.Logic.{◌↔◌, inl, inr}
use Prim.Native.Nat.{ℕ, ◌<◌}
use lib.Dec.{eqb, ltb}
use borrow.Author.Tests.{eqb-true, eqb-false, ltb-true, not-true}
use Rattle.float.specs.Lists.{every}
use Rattle.float.proofs.Scan.{both}
use Rattle.refusal.specs.Refusal.{accepted, Row, ◌⇒◌, first_of, Cause, Clear, Exactly}

module _ (n : ℕ) (some : n ≡ accepted → ⊥) where
  there : (rows : List Row) → first_of rows ≡ n → Cause n rows
  unfolding first_of
  there [] e = some (sym e)
  there ((true, k) ∷ rows) e = inl (refl, e)
  there ((false, k) ∷ rows) e = inr (refl, there rows e)

  back : (rows : List Row) → Cause n rows → first_of rows ≡ n
  unfolding first_of
  back [] c = elim c [ ]
  back ((true, k) ∷ rows) (inl (_, e)) = e
  back ((true, k) ∷ rows) (inr (e, _)) = absurd (true≢false e)
  back ((false, k) ∷ rows) (inl (e, _)) = absurd (false≢true e)
  back ((false, k) ∷ rows) (inr (_, c)) = back rows c

  -- THE law of a ladder
  pub given_exactly : (rows : List Row) → first_of rows ≡ n ↔ Cause n rows
  given_exactly rows = (there rows, back rows)

-- ---- a number that stands on no row is never given
abbrev pub nowhere : (n : ℕ) → List Row → Bool
nowhere n rows = every (λ row. not (eqb row.1 n)) rows

no_cause : (n : ℕ) (rows : List Row) → nowhere n rows ≡ true → Cause n rows → ⊥
unfolding every
no_cause n [] o c = elim c [ ]
no_cause n ((test, k) ∷ rows) o (inl (_, e)) = eqb-false k n (not-true _ (both (not (eqb k n)) _ o).0) e
no_cause n ((test, k) ∷ rows) o (inr (_, c)) = no_cause n rows (both (not (eqb k n)) _ o).1 c

pub never_given : (n : ℕ) → (n ≡ accepted → ⊥) → (rows : List Row) → nowhere n rows ≡ true → first_of rows ≡ n → ⊥
never_given n some rows o e = no_cause n rows o ((given_exactly n some rows).0 e)

-- ---- a number that stands on one row alone is given exactly where the tests before that row do not hold and its own does
abbrev pick : Bool → Type 0 → Type 0 → Type 0
pick true A B = A
pick false A B = B

abbrev pub Alone : (n : ℕ) → List Row → Type 0
Alone n [] = ⊥
Alone n ((test, k) ∷ rows) = pick (eqb k n) (test ≡ true) ((test ≡ false) × Alone n rows)

abbrev pub once : (n : ℕ) → List Row → Bool
once n [] = true
once n ((test, k) ∷ rows) = cond (eqb k n) (nowhere n rows) (once n rows)

module _ (n : ℕ) where
  alone_there : (rows : List Row) → once n rows ≡ true → Cause n rows → Alone n rows
  alone_there [] o c = elim c [ ]
  alone_there ((test, k) ∷ rows) o c = go (eqb k n) refl o c (alone_there rows)
    where
      go : (b : Bool) → eqb k n ≡ b → cond b (nowhere n rows) (once n rows) ≡ true → Cause n (test ⇒ k ∷ rows) → (once n rows ≡ true → Cause n rows → Alone n rows)
          → pick b (test ≡ true) ((test ≡ false) × Alone n rows)
      go true e o (inl (t, _)) rest = t
      go true e o (inr (_, c)) rest = absurd (no_cause n rows o c)
      go false e o (inl (_, z)) rest = absurd (eqb-false k n e z)
      go false e o (inr (t, c)) rest = (t, rest o c)

  alone_back : (rows : List Row) → Alone n rows → Cause n rows
  alone_back [] a = elim a [ ]
  alone_back ((test, k) ∷ rows) a = go (eqb k n) refl a (alone_back rows)
    where
      go : (b : Bool) → eqb k n ≡ b → pick b (test ≡ true) ((test ≡ false) × Alone n rows) → (Alone n rows → Cause n rows) → Cause n (test ⇒ k ∷ rows)
      go true e t rest = inl (t, eqb-true k n e)
      go false e (t, a) rest = inr (t, rest a)

  pub alone_exactly : (n ≡ accepted → ⊥) → (rows : List Row) → once n rows ≡ true → first_of rows ≡ n ↔ Alone n rows
  alone_exactly some rows o = let (cause, given) = given_exactly n some rows in ((λ e. alone_there rows o (cause e)), λ a. given (alone_back rows a))

-- 0 is the number of none of these rows
abbrev pub Refusing : List Row → Type 0
Refusing rows = nowhere accepted rows ≡ true

clear_there : (rows : List Row) → Refusing rows → first_of rows ≡ accepted → Clear rows
unfolding first_of every
clear_there [] z e = tt
clear_there ((true, k) ∷ rows) z e = absurd (eqb-false k accepted (not-true _ (both _ _ z).0) e)
clear_there ((false, k) ∷ rows) z e = (refl, clear_there rows (both (not (eqb k accepted)) _ z).1 e)

clear_back : (rows : List Row) → Clear rows → first_of rows ≡ accepted
unfolding first_of
clear_back [] c = refl
clear_back ((true, k) ∷ rows) c = absurd (true≢false c.0)
clear_back ((false, k) ∷ rows) c = clear_back rows c.1

-- nothing is refused exactly where no test holds
pub clear_exactly : (rows : List Row) → Refusing rows → first_of rows ≡ accepted ↔ Clear rows
clear_exactly rows z = (clear_there rows z, clear_back rows)

pub exactly : (rows : List Row) → Refusing rows → Exactly (first_of rows) rows
exactly rows z = record { refused_exactly = λ n some. given_exactly n some rows; accepted_exactly = clear_exactly rows z }

-- where the first row's number is not given its test does not hold, and the rows behind it decide
pub passed : (test : Bool) (k : ℕ) (rows : List Row) → (first_of (test ⇒ k ∷ rows) ≡ k → ⊥) → (test ≡ false) × (first_of (test ⇒ k ∷ rows) ≡ first_of rows)
unfolding first_of
passed true k rows other = absurd (other refl)
passed false k rows other = (refl, refl)

-- what is given is a row's number, so it is above m where all of them are
pub first_above : (m : ℕ) (rows : List Row) → every (λ row. ltb m row.1) rows ≡ true → (first_of rows ≡ accepted → ⊥) → m < first_of rows
unfolding first_of every
first_above m [] a z = absurd (z refl)
first_above m ((true, k) ∷ rows) a z = ltb-true m k (both (ltb m k) _ a).0
first_above m ((false, k) ∷ rows) a z = first_above m rows (both (ltb m k) _ a).1 z
