-- A block of bytes and a block of numbers are items: the bytes are there or the file ends in them, and the numbers follow the rule for blocks.
use mathlib.Core.Path.{◌≡◌, refl, sym, ◌∙◌}
use mathlib.Core.Bool.{Bool, true, false, ◌&&◌, true≢false}
use mathlib.Core.List.{List, [], ◌∷◌, ◌++◌}
use mathlib.Core.Logic.{◌↔◌, inl, inr}
use Prim.Native.Nat.{ℕ, zero, suc, ◌+◌, ◌*◌, ◌≤◌, ◌<◌}
use native.Mathlib.Nat.{zero-add, mul-le-mul_left}
use native.Mathlib.Omega.{arith}
use lib.Dec.{leb}
use lib.ListN.{length, get_or, take, drop, length-append, take-append-drop}
use lib.Seq.{length-take-le}
use borrow.Author.Tests.{leb-true, leb-false, le-leb, lt-leb}
use Rattle.float.proofs.Scan.{both}
use Rattle.mesh.specs.Items.{block, right, numbers}
use Rattle.mesh.specs.Rules.{number_at, OneOfBlock}
use Rattle.std.specs.Prelude.{Ok, Err}
use Rattle.mesh.specs.declared.Rule.{Rule}
use Rattle.mesh.proofs.Item.{never, ok_is, Texts, EndsAt, Whole, Cut, Taken, Item}
use Rattle.mesh.proofs.Bytes.{number_stays, decode, decode_length, decode_at}
use Rattle.mesh.proofs.BlockRule.{one_of, block_rule}

-- k bytes
module _ (k at : ℕ) (s : List ℕ) where
  pub block_there : k ≤ length s → block k at s ≡ Ok (0, at + k)
  unfolding block
  block_there h = rw (le-leb _ _ h)

  pub block_ended : length s < k → block k at s ≡ Err (at + length s)
  unfolding block
  block_ended h = rw (lt-leb _ _ h)

abbrev pub RightBlock : (k : ℕ) → Texts
RightBlock k v w = (v ≡ 0) × (length w ≡ k)

module _ (k : ℕ) where
  block_whole : Whole (RightBlock k) (block k)
  block_whole at v w rest (z, l) = block_there k at (w ++ rest) (rw length-append (omega arith)) ∙ rw (z, l)

  block_cut : Cut (RightBlock k) (block k)
  block_cut at v w rest (z, l) h = block_ended k at w (omega (arith, length-append w rest))

  block_taken : Taken (RightBlock k) (block k)
  block_taken at v a s e = by (leb k (length s)) refl
    where
      by : (b : Bool) → leb k (length s) ≡ b → EndsAt (RightBlock k) at v a s
      by true t =
          let fits = leb-true _ _ t in
          let l = length-take-le k s fits in
          let next = sym (block_there k at s fits) ∙ e in
          let (none, place) = ok_is next in
          (take k s, drop k s, (sym none, l), sym (take-append-drop k s), rw l (sym place))
      by false t = never (sym (block_ended k at s (leb-false _ _ t)) ∙ e)

  pub block_item : Item (RightBlock k) (block k)
  block_item = record { whole = block_whole; cut = block_cut; taken = block_taken }

-- the numbers of a block, from number i on, are right
unfoldable pub right_from : Rule → (i : ℕ) → List ℕ → Bool
right_from rule i [] = true
right_from rule i (x ∷ xs) = right rule i x && right_from rule (i + 1) xs

-- the bytes t are k right numbers, w bytes each
abbrev pub AreRight : Rule → (w k : ℕ) (t : List ℕ) → Type 0
AreRight rule w k t = (length t ≡ w * k) × (right_from rule 0 (decode w k t) ≡ true)

abbrev pub RightNumbers : Rule → (w k : ℕ) → Texts
RightNumbers rule w k v t = (v ≡ 0) × AreRight rule w k t

module _ (rule : Rule) where
  each_right : (i : ℕ) (xs : List ℕ) → right_from rule i xs ≡ true → (j : ℕ) → j < length xs → right rule (i + j) (get_or xs j 0) ≡ true
  unfolding right_from
  each_right i [] r j h = absurd (omega arith)
  each_right i (x ∷ xs) r zero h = let here : i + 0 ≡ i = omega arith in rw here (both (right rule i x) _ r).0
  each_right i (x ∷ xs) r (suc j) h =
      let past : i + suc j ≡ i + 1 + j = omega arith in
      rw past (each_right (i + 1) xs (both (right rule i x) _ r).1 j (omega arith))

  all_right : (i : ℕ) (xs : List ℕ) → ((j : ℕ) → j < length xs → right rule (i + j) (get_or xs j 0) ≡ true) → right_from rule i xs ≡ true
  unfolding right_from
  all_right i [] h = refl
  all_right i (x ∷ xs) h =
      let here : i + 0 ≡ i = omega arith in
      rw (rw here at (h 0 (omega arith))) (all_right (i + 1) xs (λ j l. let past : i + suc j ≡ i + 1 + j = omega arith in rw past at (h (suc j) (omega arith))))

  module _ (w k : ℕ) where
    are_right : (t : List ℕ) → right_from rule 0 (decode w k t) ≡ true ↔ ((i : ℕ) → i < k → right rule i (number_at w i t) ≡ true)
    are_right t = (
      (λ r i h. rw (zero-add i, decode_at w k t i h) at (each_right 0 (decode w k t) r i (rw decode_length h))),
      (λ h. all_right 0 (decode w k t) (λ i l. let in-k : i < k = rw decode_length at l in rw (zero-add i, decode_at w k t i in-k) (h i in-k))),
    )

    -- number i of k that are there, where more follows
    same_number : (t rest : List ℕ) → length t ≡ w * k → (i : ℕ) → i < k → number_at w i (t ++ rest) ≡ number_at w i t
    same_number t rest l i h = let there : w * suc i ≤ w * k = mul-le-mul_left w h in number_stays w i t rest (omega arith)

    numbers_whole : Whole (RightNumbers rule w k) (numbers rule w k 0)
    numbers_whole at v t rest (z, (l, r)) =
        let enough : w * k ≤ length (t ++ rest) = rw length-append (omega arith) in
        (block_rule rule w k at (t ++ rest)).right (enough, λ i h. rw (same_number t rest l i h) ((are_right t).0 r i h)) ∙ rw (z, l)

    numbers_cut : Cut (RightNumbers rule w k) (numbers rule w k 0)
    numbers_cut at v t rest (z, (l, r)) more = by (one_of rule w t k)
      where
        by : OneOfBlock rule w t k → numbers rule w k 0 at t ≡ Err (at + length t)
        by (inl (enough, _)) = absurd (omega (arith, length-append t rest))
        by (inr (inl (j, h, (_, there, wrong)))) = absurd (true≢false (sym ((are_right (t ++ rest)).0 r j h) ∙ rw (number_stays w j t rest there) wrong))
        by (inr (inr (j, h, ends))) = (block_rule rule w k at t).cut_short j h ends

    numbers_taken : Taken (RightNumbers rule w k) (numbers rule w k 0)
    numbers_taken at v a s e = by (one_of rule w s k)
      where
        by : OneOfBlock rule w s k → EndsAt (RightNumbers rule w k) at v a s
        by (inl (enough, rights)) =
            let next = sym ((block_rule rule w k at s).right (enough, rights)) ∙ e in
            let t = take (w * k) s in
            let rest = drop (w * k) s in
            let l : length t ≡ w * k = length-take-le (w * k) s enough in
            let same : t ++ rest ≡ s = take-append-drop (w * k) s in
            let (none, place) = ok_is next in
            (t, rest, (sym none, (l, (are_right t).1 (λ i h. rw (← same_number t rest l i h, same) (rights i h)))), sym same, rw l (sym place))
        by (inr (inl (j, h, is))) = never (sym ((block_rule rule w k at s).wrong j h is) ∙ e)
        by (inr (inr (j, h, is))) = never (sym ((block_rule rule w k at s).cut_short j h is) ∙ e)

    pub numbers_item : Item (RightNumbers rule w k) (numbers rule w k 0)
    numbers_item = record { whole = numbers_whole; cut = numbers_cut; taken = numbers_taken }
