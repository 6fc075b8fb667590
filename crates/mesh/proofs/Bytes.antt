-- A number and its bytes are inverse: the last byte is the remainder by 256, and the bytes before it are the quotient's. So are a block's numbers and its bytes, one by one.
use mathlib.Core.Path.{◌≡◌, refl, sym, ◌∙◌, ap}
use mathlib.Core.Bool.{true}
use mathlib.Core.List.{List, [], ◌∷◌, ◌++◌, append_assoc, append-nil}
use Prim.Native.Nat.{ℕ, zero, suc, ◌+◌, ◌*◌, ◌/◌, ◌%◌, ◌^◌, ◌≤◌, ◌<◌}
use native.Mathlib.Nat.{add-zero, zero-add, mul-le-mul_right, pow-succ'}
use native.Mathlib.Omega.{arith}
use lib.ListN.{length, get_or, take, drop, length-append, length-drop, take-append-drop}
use lib.Seq.{length-take-le, take_all, take_at, drop_at, take-add, drop-drop, take-append-le, drop-append-le}
use borrow.Author.Tests.{lt-ltb, ltb-true}
use Rattle.float.specs.Lists.{every, fold}
use Rattle.float.specs.Numbers.{big_endian}
use Rattle.float.proofs.Fold.{fold_append}
use Rattle.float.proofs.Scan.{both, every_parts}
use Rattle.mesh.specs.Rules.{number_at}
use Rattle.mesh.specs.Writer.{fit_in, bytes, spell}

pub bytes_length : (w x : ℕ) → length (bytes w x) ≡ w
unfolding bytes
bytes_length zero x = refl
bytes_length (suc w) x = rw (length-append, bytes_length w (x / 256)) (omega arith)

pub number_of_bytes : (w x : ℕ) → x < 256 ^ w → big_endian (bytes w x) ≡ x
unfolding bytes big_endian fold
number_of_bytes zero x h = omega arith
number_of_bytes (suc w) x h = rw (fold_append, number_of_bytes w (x / 256) (omega arith)) (omega arith)

module _ (a b : ℕ) (h : b < 256) where
  quotient : (a * 256 + b) / 256 ≡ a
  quotient = omega arith

  remainder : (a * 256 + b) % 256 ≡ b
  remainder = omega arith

-- the bytes xs after the number a, which has k bytes
bytes_after : (k a : ℕ) (xs : List ℕ) → fit_in 1 xs ≡ true → bytes (k + length xs) (fold (λ w b. w * 256 + b) a xs) ≡ bytes k a ++ xs
unfolding every fold bytes
bytes_after k a [] e = rw (add-zero, append-nil)
bytes_after k a (b ∷ xs) e =
    let fits = both _ _ e in
    let h : b < 256 = ltb-true _ _ fits.0 in
    let one_more : k + suc (length xs) ≡ suc k + length xs = omega arith in
    rw one_more (bytes_after (suc k) (a * 256 + b) xs fits.1 ∙ rw (quotient a b h, remainder a b h, append_assoc))

pub bytes_of_number : (xs : List ℕ) → fit_in 1 xs ≡ true → bytes (length xs) (big_endian xs) ≡ xs
unfolding big_endian bytes
bytes_of_number xs e = rw (zero-add (length xs)) at (bytes_after 0 0 xs e)

below_after : (a : ℕ) (xs : List ℕ) → fit_in 1 xs ≡ true → fold (λ w b. w * 256 + b) a xs < (a + 1) * 256 ^ length xs
unfolding every fold
below_after a [] e = omega arith
below_after a (b ∷ xs) e =
    let fits = both _ _ e in
    let h : b < 256 = ltb-true _ _ fits.0 in
    let room : a * 256 + b + 1 ≤ (a + 1) * 256 = omega arith in
    rw (pow-succ' 256 (length xs)) (omega (arith, below_after (a * 256 + b) xs fits.1, mul-le-mul_right (256 ^ length xs) room))

number_below : (xs : List ℕ) → fit_in 1 xs ≡ true → big_endian xs < 256 ^ length xs
unfolding big_endian
number_below xs e = omega (arith, below_after 0 xs e)

-- a number that is there stays the same, whatever follows
pub number_stays : (w i : ℕ) (t rest : List ℕ) → w * (i + 1) ≤ length t → number_at w i (t ++ rest) ≡ number_at w i t
number_stays w i t rest h = rw (drop-append-le (w * i) t rest (omega arith), take-append-le w (drop (w * i) t) rest (rw length-drop (omega arith)))

-- the first k numbers of s, w bytes each
unfoldable pub decode : (w k : ℕ) (s : List ℕ) → List ℕ
decode w zero s = []
decode w (suc k) s = big_endian (take w s) ∷ decode w k (drop w s)

pub decode_length : (w k : ℕ) (s : List ℕ) → length (decode w k s) ≡ k
unfolding decode
decode_length w zero s = refl
decode_length w (suc k) s = ap suc (decode_length w k (drop w s))

pub decode_at : (w k : ℕ) (s : List ℕ) (i : ℕ) → i < k → get_or (decode w k s) i 0 ≡ number_at w i s
unfolding decode
decode_at w zero s i h = absurd (omega arith)
decode_at w (suc k) s zero h = let here : w * 0 ≡ 0 = omega arith in rw here
decode_at w (suc k) s (suc i) h =
    let past : w * suc i ≡ w + w * i = omega arith in
    decode_at w k (drop w s) i (omega arith) ∙ rw (past, drop-drop (w * i) w s)

pub spell_length : (w : ℕ) (xs : List ℕ) → length (spell w xs) ≡ w * length xs
unfolding spell
spell_length w [] = omega arith
spell_length w (x ∷ xs) = rw (length-append, bytes_length w x, spell_length w xs) (omega arith)

module _ (w k : ℕ) (s : List ℕ) (fits : fit_in 1 s ≡ true) (enough : w * suc k ≤ length s) where
  first_bytes : (fit_in 1 (take w s) ≡ true) × (fit_in 1 (drop w s) ≡ true)
  first_bytes = every_parts _ (take w s) (drop w s) (rw (take-append-drop w s) fits)

  first_length : length (take w s) ≡ w
  first_length = length-take-le w s (omega arith)

  more : w * k ≤ length (drop w s)
  more = rw length-drop (omega arith)

pub spell_decode : (w k : ℕ) (s : List ℕ) → fit_in 1 s ≡ true → w * k ≤ length s → spell w (decode w k s) ≡ take (w * k) s
unfolding spell decode
spell_decode w zero s fits enough = let none : w * 0 ≡ 0 = omega arith in rw none
spell_decode w (suc k) s fits enough =
    let parts = first_bytes w k s fits enough in
    let first : bytes w (big_endian (take w s)) ≡ take w s = rw (first_length w k s fits enough) at (bytes_of_number (take w s) parts.0) in
    let sum : w * suc k ≡ w + w * k = omega arith in
    rw (first, spell_decode w k (drop w s) parts.1 (more w k s fits enough), sum) (sym (take-add w (w * k) s))

pub decode_fits : (w k : ℕ) (s : List ℕ) → fit_in 1 s ≡ true → w * k ≤ length s → fit_in w (decode w k s) ≡ true
unfolding every decode
decode_fits w zero s fits enough = refl
decode_fits w (suc k) s fits enough =
    let parts = first_bytes w k s fits enough in
    let below = rw (first_length w k s fits enough) at (number_below (take w s) parts.0) in
    rw (lt-ltb _ _ below) (decode_fits w k (drop w s) parts.1 (more w k s fits enough))

pub decode_spell : (w : ℕ) (xs rest : List ℕ) → fit_in w xs ≡ true → decode w (length xs) (spell w xs ++ rest) ≡ xs
unfolding every spell decode
decode_spell w [] rest e = refl
decode_spell w (x ∷ xs) rest e =
    let fits = both _ _ e in
    let others = spell w xs ++ rest in
    let first = take_at (bytes w x) others w (bytes_length w x) in
    let past = drop_at (bytes w x) others w (bytes_length w x) in
    rw (append_assoc, first, past, number_of_bytes w x (ltb-true _ _ fits.0), decode_spell w xs rest fits.1)

-- a block of k numbers, both ways
pub decode_block : (w k : ℕ) (xs : List ℕ) → length xs ≡ k → fit_in w xs ≡ true → decode w k (spell w xs) ≡ xs
decode_block w k xs l e = rw (← l, ← append-nil (spell w xs)) (decode_spell w xs [] e)

pub spell_block : (w k : ℕ) (s : List ℕ) → fit_in 1 s ≡ true → length s ≡ w * k → s ≡ spell w (decode w k s)
spell_block w k s fits l = sym (spell_decode w k s fits (omega arith) ∙ take_all (w * k) s (omega arith))

-- number i of a block stands i numbers on
pub spelled_at : (w : ℕ) (xs : List ℕ) (i : ℕ) → fit_in w xs ≡ true → i < length xs → number_at w i (spell w xs) ≡ get_or xs i 0
spelled_at w xs i fits h = sym (decode_at w (length xs) (spell w xs) i h) ∙ ap (λ (l : List ℕ). get_or l i 0) (decode_block w (length xs) xs refl fits)
