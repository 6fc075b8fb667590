-- Lines and numbers of a file: the newlines before a place, and the four bytes from it on.
use Rattle.std.proofs.Common.{◌≡◌, ◌∙◌, sym, ap, refl, Bool, true, false, cond, List, [], ◌∷◌, length, get_or, take, drop, ℕ, zero, suc, ◌+◌, ◌-◌, ◌≤◌, ◌<◌, min, length-drop, add-one, arith}
use Rattle.std.proofs.lemmas.List.{take_all}
use Rattle.std.proofs.lemmas.List.Sums.{count_by_more_yes, count_by_more_no}
use Rattle.std.specs.Prelude.{count_by, eqb}
use borrow.Author.Tests.{lt-ltb, le-ltb}
use native.Mathlib.Decide.{dec_le}
use Rattle.float.specs.Numbers.{big_endian}
use Rattle.float.specs.Lists.{table, fold}
use Rattle.float.proofs.Fold.{fold_append}
use Rattle.survey.specs.Survey.{with_line, number_at}

four : (l : List ℕ) → 4 ≤ length l → take 4 l ≡ get_or l 0 0 ∷ get_or l 1 0 ∷ get_or l 2 0 ∷ get_or l 3 0 ∷ []
four [] h = absurd (omega arith)
four (a ∷ []) h = absurd (omega arith)
four (a ∷ b ∷ []) h = absurd (omega arith)
four (a ∷ b ∷ c ∷ []) h = absurd (omega arith)
four (a ∷ b ∷ c ∷ d ∷ l) h = refl

module _ (file : List ℕ) (place : ℕ) where
  is_newline : ℕ → Bool
  is_newline b = eqb b 10

  newlines : ℕ → ℕ
  newlines n = count_by is_newline (take (min place n) file)

  counted : (n line : ℕ) (b : Bool) → n < length file → b ≡ is_newline (get_or file n 0) → line ≡ count_by is_newline (take n file) + 1
      → cond b (line + 1) line ≡ count_by is_newline (take (n + 1) file) + 1
  counted n line true h t e = omega (arith, e, count_by_more_yes is_newline file n 0 h (sym t))
  counted n line false h t e = omega (arith, e, count_by_more_no is_newline file n 0 h (sym t))

  more : (n line : ℕ) → n < length file → Dec (place ≤ n) → line ≡ newlines n + 1 → with_line file place line n ≡ newlines (n + 1) + 1
  unfolding newlines is_newline
  more n line h (yes g) e =
      let e0 : min place n ≡ place = omega arith in
      let e1 : min place (n + 1) ≡ place = omega arith in
      rw (le-ltb n place g, e1) (rw e0 at e)
  more n line h (no g) e =
      let e0 : min place n ≡ n = omega arith in
      let e1 : min place (n + 1) ≡ n + 1 = omega arith in
      rw (lt-ltb n place (omega arith), e1) (counted n line _ h refl (rw e0 at e))

  pub turns : (n : ℕ) → n ≤ length file → fold (with_line file place) 1 (table n (λ i. i)) ≡ count_by (λ b. eqb b 10) (take (min place n) file) + 1
  unfolding table fold newlines is_newline
  turns zero h = let e : min place 0 ≡ 0 = omega arith in rw e refl
  turns (suc n) h =
      let e : n + 1 ≡ suc n = add-one n in
      fold_append (with_line file place) (table n (λ i. i)) (n ∷ []) 1 ∙ more n _ (omega arith) (dec_le place n) (turns n (omega arith)) ∙ ap (λ m. newlines m + 1) e

  -- what stands from the place on, or from the end, as a slice has it
  abbrev pub rest : List ℕ
  rest = take (length file - min place (length file)) (drop (min place (length file)) file)

  rest_is : rest ≡ drop (min place (length file)) file
  rest_is = take_all _ _ (omega (arith, length-drop (min place (length file)) file))

  pub number_of_four : 4 ≤ length rest → big_endian (get_or rest 0 0 ∷ get_or rest 1 0 ∷ get_or rest 2 0 ∷ get_or rest 3 0 ∷ []) ≡ number_at file place
  unfolding number_at
  number_of_four h =
      let l : length rest + min place (length file) ≡ length file = rw rest_is (omega (arith, length-drop (min place (length file)) file)) in
      let e : min place (length file) ≡ place = omega (arith, h, l) in
      rw (le-ltb (length file - place) 4 (omega (arith, h, l, e))) (ap big_endian (sym (four rest h) ∙ ap (take 4) rest_is) ∙ rw e refl)

  pub number_of_fewer : length rest < 4 → 0 ≡ number_at file place
  unfolding number_at
  number_of_fewer h =
      let l : length rest + min place (length file) ≡ length file = rw rest_is (omega (arith, length-drop (min place (length file)) file)) in
      rw (lt-ltb (length file - place) 4 (omega (arith, h, l))) refl
