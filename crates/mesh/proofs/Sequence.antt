-- Parts of a file, one after the other: where each of two parts keeps an item's promise of its texts, the two together keep it of the texts put together.
use mathlib.Core.Path.{◌≡◌, refl, sym, ◌∙◌, ap}
use mathlib.Core.List.{List, ◌++◌, append_assoc}
use mathlib.Core.Logic.{◌↔◌, inl, inr}
use Prim.Native.Nat.{ℕ, ◌+◌, ◌<◌}
use native.Mathlib.Omega.{arith}
use lib.ListN.{length, drop, length-append}
use lib.Seq.{drop-drop, drop-append_seam}
use Rattle.std.specs.Prelude.{Ok, Err}
use Rattle.mesh.specs.Items.{Step, after}
use Rattle.mesh.proofs.Item.{ok_at, err_at, Texts, Item}
use Rattle.mesh.proofs.Cuts.{Cuts, cuts}
use Rattle.mesh.proofs.After.{after_next, after_bad, after_taken}

-- a text that is right for a first part, and then one that is right for a second
infixr 20 ◌▷◌
abbrev pub ◌▷◌ : (R : Texts) (S : (v : ℕ) → Texts) → Texts
(R ▷ S) x w = (v : ℕ) × (u : List ℕ) × (y : List ℕ) × R v u × S v x y × (w ≡ u ++ y)

module _ (f : List ℕ) where
  -- an item's promise, of what stands in f at a place
  pub record Part (Right : Texts) (part : (at : ℕ) → Step) : Type 0 where
    pub whole : (at v : ℕ) (w rest : List ℕ) → Right v w → drop at f ≡ w ++ rest → part at ≡ Ok (v, at + length w)
    pub cut : (at v : ℕ) (w rest : List ℕ) → Right v (w ++ rest) → 0 < length rest → drop at f ≡ w → part at ≡ Err (at + length w)
    pub taken : (at v a : ℕ) → part at ≡ Ok (v, a) → (w : List ℕ) × Right v w × (drop at f ≡ w ++ drop a f) × (a ≡ at + length w)

  skip : (at : ℕ) (w rest : List ℕ) → drop at f ≡ w ++ rest → drop (at + length w) f ≡ rest
  skip at w rest e = sym (drop-drop (length w) at f) ∙ rw e (drop-append_seam w rest)

  follows : (at a : ℕ) (w rest : List ℕ) → a ≡ at + length w → drop at f ≡ w ++ rest → drop at f ≡ w ++ drop a f
  follows at a w rest place e = e ∙ rw (place, skip at w rest e)

  pub of_item : {R : Texts} {item : (at : ℕ) (s : List ℕ) → Step} → Item R item → Part R (λ at. item at (drop at f))
  of_item {R} {item} i = record {
    whole = λ at v w rest r e. rw e (i.whole at v w rest r);
    cut = λ at v w rest r h e. rw e (i.cut at v w rest r h);
    taken = λ at v a e.
        let (w, rest, r, s, place) = i.taken at v a (drop at f) e in
        (w, r, follows at a w rest place s, place);
  }

  module _ {R : Texts} {p : (at : ℕ) → Step} (first : Part R p) {S : (v : ℕ) → Texts} {q : (v at : ℕ) → Step} (second : (v : ℕ) → Part (S v) (q v)) where
    both_whole : (at x : ℕ) (w rest : List ℕ) → (R ▷ S) x w → drop at f ≡ w ++ rest → after (p at) q ≡ Ok (x, at + length w)
    both_whole at x w rest (v, u, y, r, s, e) d =
        let there : drop at f ≡ u ++ (y ++ rest) = d ∙ rw e (append_assoc u y rest) in
        let place : at + length u + length y ≡ at + length w = rw (e, length-append) (omega arith) in
        after_next (p at) q v (at + length u) (first.whole at v u (y ++ rest) r there)
        ∙ (second v).whole (at + length u) x y rest s (skip at u (y ++ rest) there)
        ∙ ok_at x place

    -- the cut falls into the first text, or into the second
    both_cut : (at x : ℕ) (w rest : List ℕ) → (R ▷ S) x (w ++ rest) → 0 < length rest → drop at f ≡ w → after (p at) q ≡ Err (at + length w)
    both_cut at x w rest (v, u, y, r, s, e) h d = by (cuts u y w rest (sym e))
      where
        by : Cuts u y w rest → after (p at) q ≡ Err (at + length w)
        by (inl (more, split, some)) = after_bad (p at) q (at + length w) (first.cut at v w more (rw split at r) some d)
        by (inr (more, split, left)) =
            let there : drop at f ≡ u ++ more = d ∙ split in
            let place : at + length u + length more ≡ at + length w = rw (split, length-append) (omega arith) in
            after_next (p at) q v (at + length u) (first.whole at v u more r there)
            ∙ (second v).cut (at + length u) x more rest (rw left at s) h (skip at u more there)
            ∙ err_at place

    both_taken : (at x b : ℕ) → after (p at) q ≡ Ok (x, b) → (w : List ℕ) × (R ▷ S) x w × (drop at f ≡ w ++ drop b f) × (b ≡ at + length w)
    both_taken at x b e =
        let (v, a, e1, e2) = after_taken (p at) q (x, b) e in
        let (u, r, d1, a1) = first.taken at v a e1 in
        let (y, s, d2, a2) = (second v).taken a x b e2 in
        (u ++ y, (v, u, y, r, s, refl), d1 ∙ ap (λ (l : List ℕ). u ++ l) d2 ∙ sym (append_assoc u y (drop b f)), rw length-append (omega arith))

    -- THE law of sequences
    pub in_sequence : Part (R ▷ S) (λ at. after (p at) q)
    in_sequence = record { whole = both_whole; cut = both_cut; taken = both_taken }

  module _ {R : Texts} {p : (at : ℕ) → Step} (part : Part R p) where
    -- the same texts, said in another way
    pub said_as : {S : Texts} → ((v : ℕ) (w : List ℕ) → R v w ↔ S v w) → Part S p
    said_as same = record {
      whole = λ at v w rest s e. part.whole at v w rest ((same v w).1 s) e;
      cut = λ at v w rest s h e. part.cut at v w rest ((same v (w ++ rest)).1 s) h e;
      taken = λ at v a e. let (w, r, d, place) = part.taken at v a e in (w, (same v w).0 r, d, place);
    }

    -- a right text w, where all before it is a, and with it b
    pub passes : (a w rest b : List ℕ) (v : ℕ) → R v w → f ≡ a ++ (w ++ rest) → b ≡ a ++ w → p (length a) ≡ Ok (v, length b)
    passes a w rest b v r e upto =
        let there : drop (length a) f ≡ w ++ rest = rw e (drop-append_seam a (w ++ rest)) in
        part.whole (length a) v w rest r there ∙ rw (upto, length-append)
