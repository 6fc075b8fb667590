-- What is left of a template: its first byte and what is left after it, or the next number and what is left after the four bytes that follow; and the text so far.
use mathlib.Core.Path.{◌≡◌, refl, sym, ◌∙◌, ap}
use mathlib.Core.List.{List, [], ◌∷◌, ◌++◌, append_assoc, append-nil}
use Prim.Native.Nat.{ℕ, zero, suc, ◌+◌, ◌-◌, ◌*◌, ◌≤◌, min}
use native.Mathlib.Omega.{arith}
use lib.Ieee.{Float, nan}
use lib.ListN.{length, take, drop, length-drop}
use lib.Seq.{take_all, drop-drop}
use Rattle.std.proofs.Common.{Option, Some, None, Iter, Bor}
use Rattle.std.specs.Option.{MatchOption, unwrap_or, option_copied}
use Rattle.std.proofs.lemmas.List.{drop_min, get_or-drop}
use borrow.Author.Tests.{ne_eqb}
use Rattle.float.specs.Lists.{◌!◌}
use Rattle.lines.specs.Filled.{digit_of, shown_of, field_of, filled_from, filled_of, Writes, IsFilled}
use Rattle.lines.proofs.Writing.{writes_none, writes_append, within}

pub nothing : {X : Type 0} (l : List X) → length l ≡ 0 → l ≡ []
nothing [] e = refl
nothing (x ∷ l) e = absurd (omega arith)

module _ (numbers : List Float) (j : ℕ) where
  skipped : (k : ℕ) (l : List ℕ) → filled_from numbers j k l ≡ filled_from numbers j 0 (drop k l)
  unfolding filled_from
  skipped zero l = refl
  skipped (suc k) [] = refl
  skipped (suc k) (c ∷ l) = skipped k l

  at_byte : (c : ℕ) (more : List ℕ) → (c ≡ 37 → ⊥) → filled_from numbers j 0 (c ∷ more) ≡ (c ∷ []) ++ filled_from numbers j 0 more
  unfolding filled_from
  at_byte c more n = rw (ne_eqb c 37 n)

at_number : (numbers : List Float) (j : ℕ) (more : List ℕ) → filled_from numbers j 0 (37 ∷ more) ≡ field_of more (numbers ! j) ++ filled_from numbers (suc j) 0 (drop 4 more)
unfolding filled_from
at_number numbers j more = rw (skipped numbers (suc j) 4 more)

-- the next of the numbers that are left
pub next_number : (r : Option (Bor Float)) (it after : Iter Float) → MatchOption r ((length it.rest.now ≡ 0) × (after ≡ it)) (λ x. it.rest.now ≡ x.now ∷ after.rest.now)
    → (unwrap_or (option_copied r) nan ≡ it.rest.now ! 0) × (after.rest.now ≡ drop 1 it.rest.now)
next_number None it after (e, s) = let none = nothing it.rest.now e in (rw none, ap (λ (i : Iter Float). i.rest.now) s ∙ rw none)
next_number (Some x) it after e = (rw e, rw e)

-- what `fill` keeps: so far a text is written, the numbers from j on are left, and what is left of the template follows it
pub record SoFar (template : List ℕ) (numbers : List Float) (before : List ℕ) (at : ℕ) (now : List ℕ) (left : List Float) (rest : List ℕ) : Type 0 where
  pub text : List ℕ
  pub j : ℕ
  pub written : Writes text 0 before at now
  pub numbers_left : left ≡ drop j numbers
  pub same : filled_of template numbers ≡ text ++ filled_from numbers j 0 rest

pub begun : (template : List ℕ) (numbers : List Float) (before : List ℕ) {left : List Float} → left ≡ numbers → SoFar template numbers before 0 before left template
unfolding filled_of
begun template numbers before all = record { text = []; j = 0; written = writes_none (omega arith); numbers_left = all; same = refl }

module _ {template : List ℕ} {numbers : List Float} {before : List ℕ} {at : ℕ} {now : List ℕ} {left : List Float} {rest : List ℕ} (s : SoFar template numbers before at now left rest) where
  pub room : at ≤ length now
  room = within s.written

  further : (w rest' : List ℕ) (left' : List Float) (j : ℕ) {r : ℕ} {after : List ℕ} → Writes w at now r after → left' ≡ drop j numbers
      → filled_from numbers s.j 0 rest ≡ w ++ filled_from numbers j 0 rest' → SoFar template numbers before r after left' rest'
  further w rest' left' j wrote n e =
      record { text = s.text ++ w; j = j; written = writes_append s.written wrote; numbers_left = n; same = s.same ∙ rw e (sym (append_assoc s.text w _)) }

  pub byte_put : {c : ℕ} {more : List ℕ} {r : ℕ} {after : List ℕ} → rest ≡ c ∷ more → (c ≡ 37 → ⊥) → Writes (c ∷ []) at now r after → SoFar template numbers before r after left more
  byte_put {c} {more} is n wrote = further (c ∷ []) more left s.j wrote s.numbers_left (rw is (at_byte numbers s.j c more n))

  pub number_put : {c : ℕ} {more : List ℕ} {p k tens ones m : ℕ} {x : Float} {left' : List Float} {r : ℕ} {after : List ℕ} → rest ≡ c ∷ more → c ≡ 37 → p ≡ digit_of 0 more → k ≡ digit_of 1 more
      → tens ≡ digit_of 2 more → ones ≡ digit_of 3 more → m ≡ min (length more) 4 → (x ≡ left ! 0) × (left' ≡ drop 1 left) → Writes (shown_of p k (tens * 10 + ones) x) at now r after
      → SoFar template numbers before r after left' (take (length more - m) (drop m more))
  number_put {c} {more} {p} {k} {tens} {ones} {m} {x} {left'} is e p_is k_is t_is o_is m_is (x_is, l_is) wrote =
      let four : drop m more ≡ drop 4 more = ap (λ (z : ℕ). drop z more) (omega arith) ∙ drop_min 4 more in
      let x_now : x ≡ numbers ! s.j = x_is ∙ rw s.numbers_left (get_or-drop s.j numbers 0 nan ∙ ap (λ (z : ℕ). numbers ! z) (omega arith)) in
      let next : s.j + 1 ≡ suc s.j = omega arith in
      further (shown_of p k (tens * 10 + ones) x) _ left' (suc s.j) wrote (l_is ∙ rw s.numbers_left (rw next at (drop-drop 1 s.j numbers)))
      (rw (is, e, at_number numbers s.j more, ← p_is, ← k_is, ← t_is, ← o_is, ← x_now, take_all (length more - m) (drop m more) (simp length-drop (omega arith)), four))

  pub done : rest ≡ [] → IsFilled template numbers before at now
  unfolding filled_from
  done e = rw (s.same, e, append-nil) s.written
