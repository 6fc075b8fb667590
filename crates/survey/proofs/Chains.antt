-- What a chain over 0..n gives is what the definitions fold over their tables: both go through the same numbers in the same order.
use Rattle.std.proofs.Common.{◌≡◌, ◌∙◌, sym, ap, refl, Bool, true, false, cond, List, [], ◌∷◌, ◌++◌, map, filter, length, ℕ, zero, suc, ◌+◌, add-one, arith}
use Rattle.std.specs.List.{fold as list_fold, range_with_len}
use Rattle.std.proofs.lemmas.List.FromFn.{map-range_with_len_more}
use Rattle.std.proofs.lemmas.List.Folds.{fold-map}
use Rattle.float.specs.Lists.{table, fold}

table_is : {A : Type 0} (f : ℕ → A) (n : ℕ) → map f (range_with_len 0 n) ≡ table n f
unfolding table
table_is f zero = refl
table_is f (suc n) = (rw add-one at (map-range_with_len_more f 0 n n (omega arith))) ∙ ap (λ l. l ++ f n ∷ []) (table_is f n)

itself : {A : Type 0} (l : List A) → map (λ x. x) l ≡ l
itself [] = refl
itself (x ∷ l) = ap (λ t. x ∷ t) (itself l)

module _ {A B : Type 0} (g : B → A → B) where
  fold_is : (b : B) (l : List A) → list_fold g b l ≡ fold g b l
  unfolding fold
  fold_is b [] = refl
  fold_is b (x ∷ l) = fold_is (g b x) l

  pub folded : (f : ℕ → A) (b : B) (n : ℕ) → list_fold g b (map f (range_with_len 0 n)) ≡ fold g b (table n f)
  folded f b n = fold_is b _ ∙ ap (fold g b) (table_is f n)

  -- what is left out changes nothing
  kept : (p : A → Bool) (b : B) (l : List A) → list_fold g b (filter p l) ≡ list_fold (λ b x. cond (p x) (g b x) b) b l
  kept p b [] = refl
  kept p b (x ∷ l) = at_first (p x) (λ b. kept p b l)
    where
      at_first : (t : Bool) → ((b : B) → list_fold g b (filter p l) ≡ list_fold (λ b x. cond (p x) (g b x) b) b l)
          → list_fold g b (cond t (x ∷ filter p l) (filter p l)) ≡ list_fold (λ b x. cond (p x) (g b x) b) (cond t (g b x) b) l
      at_first true e = e (g b x)
      at_first false e = e b

turns : {B : Type 0} (g : B → ℕ → B) (b : B) (n : ℕ) → list_fold g b (range_with_len 0 n) ≡ fold g b (table n (λ i. i))
turns g b n = ap (list_fold g b) (sym (itself (range_with_len 0 n))) ∙ folded g (λ i. i) b n

-- a fold of the places that pass, and of what stands at each place
pub folded_kept : {B : Type 0} (g : B → ℕ → B) (p : ℕ → Bool) (b : B) (n : ℕ)
    → list_fold g b (filter p (range_with_len 0 n)) ≡ fold (λ b i. cond (p i) (g b i) b) b (table n (λ i. i))
folded_kept g p b n = kept g p b (range_with_len 0 n) ∙ turns (λ b i. cond (p i) (g b i) b) b n

pub folded_at : {A B : Type 0} (g : B → A → B) (h : ℕ → A) (b : B) (n : ℕ) → list_fold g b (map h (range_with_len 0 n)) ≡ fold (λ b i. g b (h i)) b (table n (λ i. i))
folded_at g h b n = fold-map g h b (range_with_len 0 n) ∙ turns (λ b i. g b (h i)) b n

length_is : {A : Type 0} (b : ℕ) (l : List A) → list_fold (λ n x. n + 1) b l ≡ b + length l
length_is b [] = omega arith
length_is b (x ∷ l) = omega (arith, length_is (b + 1) l)

-- how many pass
pub counted : {A : Type 0} (p : A → Bool) (h : ℕ → A) (n : ℕ) → length (filter p (map h (range_with_len 0 n))) ≡ fold (λ c i. cond (p (h i)) (c + 1) c) 0 (table n (λ i. i))
counted p h n =
    let l = map h (range_with_len 0 n) in
    let e : length (filter p l) ≡ list_fold (λ c x. c + 1) 0 (filter p l) = omega (arith, length_is 0 (filter p l)) in
    e ∙ kept (λ c x. c + 1) p 0 l ∙ folded_at (λ c x. cond (p x) (c + 1) c) h 0 n
