-- A finite sum has finite terms alone: an infinity or a NaN plus anything is no finite number. So the numbers that went into finite sums need no other look.
use mathlib.Core.Path.{◌≡◌, refl, sym, ◌∙◌}
use mathlib.Core.Bool.{true}
use mathlib.Core.List.{List, [], ◌∷◌}
use Prim.Native.Nat.{ℕ, zero, suc, ◌+◌, ◌*◌, ◌≤◌, ◌<◌}
use native.Mathlib.Nat.{zero-mul}
use native.Mathlib.Omega.{arith}
use denote.Floats.{passes}
use lib.Ieee.{Float, Format, add}
use lib.Ieee.Bits.{is_true}
use lib.Ieee.Scale.{finite}
use lib.ListN.{length, take, drop, length-drop}
use Rattle.std.specs.Simd.{first_chunks}
use Rattle.std.proofs.lemmas.List.{length-take-le, drop-drop, take-append-drop}
use Rattle.float.specs.Lists.{◌!◌, ◌!!◌, every, all_finite}
use Rattle.float.proofs.Finite.{add_finite}
use Rattle.float.proofs.Scan.{both, every_step, every_end, every_append}

finite_add : (f : Format) (x y : Float) → finite (add f x y) ≡ true → (finite x ≡ true) × (finite y ≡ true)
finite_add f x y h = let t = add_finite f x y (passes _ h) in (is_true _ t.0, is_true _ t.1)

-- four numbers at a time: after i turns, where the four sums are finite, what is left of the fours is finite exactly when all of them are
module _ (f : Format) (fours : List (List Float)) where
  abbrev pub Summed : (i : ℕ) (a b c d : Float) → Type 0
  Summed i a b c d = finite a ≡ true → finite b ≡ true → finite c ≡ true → finite d ≡ true → every all_finite (drop i fours) ≡ every all_finite fours

  finite_four : (four : List Float) → length four ≡ 4 → finite (four ! 0) ≡ true → finite (four ! 1) ≡ true → finite (four ! 2) ≡ true → finite (four ! 3) ≡ true → all_finite four ≡ true
  unfolding every
  finite_four (p ∷ q ∷ r ∷ s ∷ []) n hp hq hr hs = rw (hp, hq, hr, hs)
  finite_four _ n hp hq hr hs = absurd (omega arith)

  pub four_more : (i : ℕ) (a b c d : Float) → i < length fours → length (fours !! i) ≡ 4 → Summed i a b c d
      → Summed (i + 1) (add f a (fours !! i ! 0)) (add f b (fours !! i ! 1)) (add f c (fours !! i ! 2)) (add f d (fours !! i ! 3))
  four_more i a b c d l n h ea eb ec ed =
      let p = finite_add f a _ ea in
      let q = finite_add f b _ eb in
      let r = finite_add f c _ ec in
      let s = finite_add f d _ ed in
      every_step all_finite fours i [] true true l (sym (finite_four (fours !! i) n p.1 q.1 r.1 s.1)) ∙ h p.0 q.0 r.0 s.0

  -- where even their sum is finite, all of the fours are
  pub all_fours : (i : ℕ) (a b c d : Float) → length fours ≤ i → Summed i a b c d → finite (add f (add f (add f a b) c) d) ≡ true → every all_finite fours ≡ true
  all_fours i a b c d l h e =
      let p = finite_add f _ d e in
      let q = finite_add f _ c p.0 in
      let r = finite_add f a b q.0 in
      sym (every_end all_finite fours i true _ l (h r.0 r.1 q.1 p.1))

-- a list's first k runs of n numbers
pub run_length : (n k i : ℕ) (xs : List Float) → k * n ≤ length xs → i < k → length (first_chunks n k xs !! i) ≡ n
run_length n zero i xs h l = elim l [ ]
run_length n (suc k) zero xs h l = length-take-le n xs (omega arith)
run_length n (suc k) (suc i) xs h l = run_length n k i (drop n xs) (omega (arith, length-drop n xs)) (omega arith)

-- where all are finite, what comes after them decides
pub rest_decides : (n k : ℕ) (xs : List Float) → every all_finite (first_chunks n k xs) ≡ true → all_finite (drop (k * n) xs) ≡ all_finite xs
unfolding every
rest_decides n zero xs h = rw zero-mul refl
rest_decides n (suc k) xs h =
    let (first, more) = both (all_finite (take n xs)) _ h in
    let e : suc k * n ≡ n + k * n = omega arith in
    let here : all_finite (drop n xs) ≡ all_finite xs = sym (rw (take-append-drop, first) at (every_append finite (take n xs) (drop n xs))) in
    rw (e, ← drop-drop (k * n) n xs) (rest_decides n k (drop n xs) more ∙ here)
