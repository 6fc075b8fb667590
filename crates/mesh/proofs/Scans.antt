-- What the code of each item finds, turn by turn: what is left answers what the whole does, until the scan ends.
use mathlib.Core.Path.{◌≡◌, refl, sym, ◌∙◌, ap}
use mathlib.Core.Bool.{Bool, true, false, cond}
use mathlib.Core.List.{List, [], ◌∷◌}
use mathlib.Core.Logic.{inl, inr}
use Prim.Native.Nat.{ℕ, zero, suc, ◌+◌, ◌-◌, ◌*◌, ◌≤◌, ◌<◌}
use native.Mathlib.Numerals.{add-one}
use native.Mathlib.Omega.{arith}
use lib.Dec.{eqb, leb, leb-suc-suc}
use lib.ListN.{length, get_or, drop, take, drop_of_length-le, length-drop}
use lib.Seq.{drop-cons, take_all}
use borrow.Author.Tests.{eq-eqb, ne_eqb, le-leb, lt-leb}
use Rattle.std.proofs.lemmas.Iterator.Adapters.{position_from-zero}
use Rattle.float.specs.Numbers.{big_endian}
use Rattle.std.specs.Prelude.{Option, Some, None, Ok, Err}
use Rattle.std.specs.Char.{IsNotAsciiDigit}
use Rattle.std.specs.List.{position, position_from}
use Rattle.mesh.specs.Items.{Step, same, title_in, title, digits, right, numbers, end}
use Rattle.mesh.specs.declared.Rule.{Rule}
use Rattle.mesh.proofs.Item.{err_at}
use Rattle.mesh.proofs.Counts.{digits_six as six, digits_low as low, digits_high as high, digits_more as more}
use Rattle.mesh.proofs.BlockRule.{number_passed, number_wrong, number_cut}

module _ (f : List ℕ) (here : ℕ) where
  -- the bytes w, from place i of it on
  module _ (value start : ℕ) (w : List ℕ) (i : ℕ) where
    pub same_done : length w ≤ i → same value start (drop i w) here (drop here f) ≡ Ok (value, here)
    unfolding same
    same_done h = rw (drop_of_length-le w h)

    module _ (h : i < length w) where
      pub same_ended : length f ≤ here → same value start (drop i w) here (drop here f) ≡ Err here
      unfolding same
      same_ended e = rw (drop-cons w i 0 h, drop_of_length-le f e)

      pub same_wrong : here < length f → (get_or f here 0 ≡ get_or w i 0 → ⊥) → same value start (drop i w) here (drop here f) ≡ Err start
      unfolding same
      same_wrong e d = rw (drop-cons w i 0 h, drop-cons f here 0 e, ne_eqb _ _ d)

      pub same_more : here < length f → get_or f here 0 ≡ get_or w i 0
          → same value start (drop (i + 1) w) (here + 1) (drop (here + 1) f) ≡ same value start (drop i w) here (drop here f)
      unfolding same
      same_more e d = rw (drop-cons w i 0 h, drop-cons f here 0 e, eq-eqb _ _ d, add-one i, add-one here)

  -- digits, after n
  module _ (n : ℕ) where
    pub digits_ended : length f ≤ here → digits n (drop here f) ≡ n
    unfolding digits
    digits_ended e = rw (drop_of_length-le f e)

    module _ (e : here < length f) where
      abbrev c : ℕ
      c = get_or f here 0

      pub digits_six : 100000 ≤ n → digits n (drop here f) ≡ n
      digits_six h = rw (drop-cons f here 0 e) (six n c _ h)

      pub digits_other : IsNotAsciiDigit c → digits n (drop here f) ≡ n
      digits_other (inl h) = rw (drop-cons f here 0 e) (low n c _ (omega arith))
      digits_other (inr h) = rw (drop-cons f here 0 e) (high n c _ (omega arith))

      pub digits_more : n < 100000 → 48 ≤ c → c ≤ 57 → digits (n * 10 + (c - 48)) (drop (here + 1) f) ≡ digits n (drop here f)
      digits_more h l g = rw (drop-cons f here 0 e, add-one here) (sym (more n c _ h l (omega arith)))

-- numbers of four bytes, from number i on, of k in all; s is what is left
module _ (rule : Rule) (k i at : ℕ) (s : List ℕ) where
  pub numbers_done : k ≤ i → numbers rule 4 (k - i) i at s ≡ Ok (0, at)
  unfolding numbers
  numbers_done h = let e : k - i ≡ 0 = omega arith in rw e

  module _ (h : i < k) where
    next : k - i ≡ suc (k - (i + 1))
    next = omega arith

    pub numbers_ended : length s < 4 → numbers rule 4 (k - i) i at s ≡ Err (at + length s)
    numbers_ended e = rw next (number_cut rule 4 _ i at s e)

    module _ (e : 4 ≤ length s) where
      pub numbers_wrong : right rule i (big_endian (take 4 s)) ≡ false → numbers rule 4 (k - i) i at s ≡ Err at
      numbers_wrong d = rw next (number_wrong rule 4 _ i at s e d)

      pub numbers_more : right rule i (big_endian (take 4 s)) ≡ true → numbers rule 4 (k - i) i at s ≡ numbers rule 4 (k - (i + 1)) (i + 1) (at + 4) (drop 4 s)
      numbers_more d = rw next (number_passed rule 4 _ i at s e d)

pub end_more : (f : List ℕ) (at : ℕ) → at < length f → end at (drop at f) ≡ Err at
unfolding end
end_more f at h = rw (drop-cons f at 0 h)

-- what is left of the file from a place on
pub tail : (f : List ℕ) (at : ℕ) → take (length f - at) (drop at f) ≡ drop at f
tail f at = take_all _ _ (rw length-drop (omega arith))

-- the newline's place among the next k bytes, or that there is none; counted from j on
abbrev title_at : (start k at j : ℕ) (s : List ℕ) → Option ℕ → Step
title_at start k at j s (Some i) = Ok (0, at + i + 1)
title_at start k at j s None = cond (leb k (length s)) (Err start) (Err (at + j + length s))

title_from : (start k at j : ℕ) (s : List ℕ) → title_in start k (at + j) s ≡ title_at start k at j s (position_from (λ c. eqb c 10) j (take k s))
unfolding title_in
title_from start zero at j s = rw (le-leb 0 (length s) (omega arith))
title_from start (suc k) at j [] = rw (lt-leb (suc k) 0 (omega arith)) (err_at (omega arith))
title_from start (suc k) at j (c ∷ s) = by (rw next (title_from start k at (j + 1) s ∙ past (position_from (λ c. eqb c 10) (j + 1) (take k s)))) (eqb c 10)
  where
    next : at + j + 1 ≡ at + (j + 1)
    next = omega arith

    past : (o : Option ℕ) → title_at start k at (j + 1) s o ≡ title_at start (suc k) at j (c ∷ s) o
    past (Some i) = refl
    past None = rw leb-suc-suc (ap (cond (leb k (length s)) (Err start)) (err_at (omega arith)))

    by : title_in start k (at + j + 1) s ≡ title_at start (suc k) at j (c ∷ s) (position_from (λ c. eqb c 10) (j + 1) (take k s))
        → (t : Bool) → cond t (Ok (0, at + j + 1)) (title_in start k (at + j + 1) s) ≡ title_at start (suc k) at j (c ∷ s) (cond t (Some j) (position_from (λ c. eqb c 10) (j + 1) (take k s)))
    by ih true = refl
    by ih false = ih

module _ (at : ℕ) (s : List ℕ) where
  by_position : {o : Option ℕ} → position (λ c. eqb c 10) (take 256 s) ≡ o → title at s ≡ title_at at 256 at 0 s o
  by_position e =
      let place : at + 0 ≡ at = omega arith in
      rw place at (title_from at 256 at 0 s) ∙ rw (← position_from-zero (λ c. eqb c 10) (take 256 s), e)

  pub title_found : (i : ℕ) → position (λ c. eqb c 10) (take 256 s) ≡ Some i → title at s ≡ Ok (0, at + i + 1)
  title_found i e = by_position e

  module _ (e : position (λ c. eqb c 10) (take 256 s) ≡ None) where
    pub title_ended : length s < 256 → title at s ≡ Err (at + length s)
    title_ended h = by_position e ∙ rw (lt-leb _ _ h) (err_at (omega arith))

    pub title_none : 256 ≤ length s → title at s ≡ Err at
    title_none h = by_position e ∙ rw (le-leb _ _ h)
