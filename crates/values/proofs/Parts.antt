-- Parts that are written one after the other, the last up to the list's end: the list is what stood before the last, and the last.
use mathlib.Core.Path.{◌≡◌, ◌∙◌, ap}
use mathlib.Core.List.{List, [], ◌∷◌, ◌++◌, append-nil}
use Prim.Native.Nat.{ℕ, suc, ◌+◌, ◌≤◌}
use native.Mathlib.Omega.{arith}
use lib.ListN.{length, take, drop, length-drop, drop_of_length-le, length-append, set}
use Rattle.std.proofs.Math.Seq.{take-append_seam}
use borrow.Rule.Slice.PartMut.{put_mid}

pub last_part : {A : Type 0} (i n : ℕ) (xs m : List A) → length xs ≡ i + n → put_mid i n xs m ≡ take i xs ++ m
last_part i n xs m e =
    let h : length (drop i xs) ≤ n = omega (arith, length-drop i xs, e) in
    rw (drop_of_length-le (drop i xs) h, append-nil)

-- two parts, and nothing of what was there
pub two_parts : {A : Type 0} (i n : ℕ) (a b rest : List A) → length a ≡ i → length rest ≡ n → put_mid i n (a ++ rest) b ≡ a ++ b
two_parts i n a b rest e h =
    last_part i n (a ++ rest) b (omega (arith, length-append a rest, e, h)) ∙ ap (λ front. front ++ b) (rw (← e) (take-append_seam a rest))

-- a number and two parts
pub number_and_parts : {A : Type 0} (k n : ℕ) (v a b : List A) (x : A) → length a ≡ k → length v ≡ suc k + n → put_mid (suc k) n (put_mid 1 k (set v 0 x) a) b ≡ x ∷ a ++ b
number_and_parts k n [] a b x e h = absurd (omega (arith, h))
number_and_parts k n (y ∷ v) a b x e h =
    let size : length (x ∷ a ++ drop k v) ≡ suc k + n = omega (arith, length-append a (drop k v), length-drop k v, e, h) in
    last_part (suc k) n (x ∷ a ++ drop k v) b size ∙ ap (λ front. x ∷ front ++ b) (rw (← e) (take-append_seam a (drop (length a) v)))
