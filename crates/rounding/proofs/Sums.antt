-- Rounded sums: from left to right, each addition is one rounding of all that was added so far; by halves, each level is one rounding of all.
-- The first addition, to +0, is exact.
use mathlib.Core.Path.{◌≡◌, refl, sym, ap, ◌∙◌}
use mathlib.Core.Bool.{false}
use mathlib.Core.List.{List, [], ◌∷◌}
use Prim.Native.Nat.{ℕ, zero, suc, ◌+◌, ◌*◌, ◌/◌, ◌^◌, ◌≤◌}
use native.Mathlib.Nat.{le_refl, le_trans, le_of_eq, mul-le-mul, pow-suc}
use native.Mathlib.Omega.{arith}
use lib.Dec.{T}
use lib.ListN.{length, take, drop, take-append-drop, length-take, length-drop}
use lib.Ieee.{Float, Format, binary32, binary64, prec, fits}
use lib.Ieee.Fits.{add-fits}
use lib.Ieee.Scale.{finite}
use Rattle.float.specs.Ops.{ops, literal}
use Rattle.float.specs.Lists.{All, fold, total}
use Rattle.float.proofs.Each.{all_take, all_drop, all_map}
use Rattle.float.proofs.Bits.{zero_bits}
use Rattle.float.proofs.Finite.{add_finite}
use Rattle.rounding.specs.Exact.{Num, ◌⊞◌, signed, mag, sign, value, Number}
use Rattle.rounding.specs.Error.{Within, Near}
use Rattle.rounding.specs.Sums.{sum_of, exact_sum, halve, halves}
use Rattle.rounding.proofs.Num.{size_times}
use Rattle.rounding.proofs.Value.{size_value}
use Rattle.rounding.proofs.Rounding.{zero_add}
use Rattle.rounding.proofs.ExactSums.{sum_append}
use Rattle.rounding.proofs.Chain.{near_exact, near_same, near_more, near_within, add_near}

-- ---- lists
sum_split : {A : Type 0} (g : A → ℕ) (i : ℕ) (l : List A) → sum_of g (take i l) + sum_of g (drop i l) ≡ sum_of g l
sum_split g i l = sym (sum_append g (take i l) (drop i l)) ∙ ap (sum_of g) (take-append-drop i l)

-- ---- +0 is a number, and nothing
pub zero_number : (f : Format) → Number f (literal f 0 0)
unfolding fits
zero_number binary32 = rw (zero_bits binary32) (record { fit = tt; fine = tt })
zero_number binary64 = rw (zero_bits binary64) (record { fit = tt; fine = tt })

pub zero_value : (f : Format) → value f (literal f 0 0) ≡ signed false 0
unfolding value mag sign
zero_value binary32 = rw (zero_bits binary32)
zero_value binary64 = rw (zero_bits binary64)

-- ---- approximations: of a float by itself, and of sums that are written in another way
near_own : {f : Format} {x : Float} → T (fits f x) → Near f 0 1 x (value f x) (mag f x)
near_own {f} {x} p = near_exact p (omega arith) (omega arith) (le_of_eq (size_value f x))

near_as : {f : Format} {K : ℕ} {x : Float} {c c' p p' q q' S S' : ℕ} → c ≡ c' → p ≡ p' → q ≡ q' → S ≡ S'
    → Near f c K x (record { plus = p; minus = q }) S → Near f c' K x (record { plus = p'; minus = q' }) S'
near_as a b d e h = rw (← a, ← b, ← d, ← e) h

-- ---- from left to right, from any start s
module _ {A : Type 0} (f : Format) (g : A → Float) where
  open ops f use {◌⊕◌, zero as nought}

  infixl 75 ◌⊕◌
  abbrev from : Float → List A → Float
  from s l = fold (λ s a. s ⊕ g a) s l

  from_finite : (s : Float) (l : List A) → T (finite (from s l)) → T (finite s)
  unfolding fold
  from_finite s [] t = t
  from_finite s (a ∷ l) t = (add_finite f s (g a) (from_finite (s ⊕ g a) l t)).0

  from_fits : (s : Float) (l : List A) → T (fits f s) → T (fits f (from s l))
  unfolding fold
  from_fits s [] h = h
  from_fits s (a ∷ l) h = from_fits (s ⊕ g a) l (add-fits f s (g a))

  pub total_fits : (l : List A) → T (fits f (total f g l))
  total_fits l = from_fits nought l (zero_number f).fit

  module _ (c K : ℕ) (y : A → Num) (S : A → ℕ) where
    from_near : {d S₀ : ℕ} {n : Num} (s : Float) (l : List A) → c ≤ d → Near f d K s n S₀ → All (λ a. T (finite (g a)) → Near f c K (g a) (y a) (S a)) l
        → T (finite (from s l)) → Near f (d + length l) K (from s l) (n ⊞ exact_sum y l) (S₀ + sum_of S l)
    unfolding fold sum_of
    from_near s [] h e ts t = near_as (omega arith) (omega arith) (omega arith) (omega arith) e
    from_near {d = d} {S₀ = S₀} {n = n} s (a ∷ l) h e ts t =
        let u = from_finite (s ⊕ g a) l t in
        near_as (omega arith) (omega arith) (omega arith) (omega arith)
        (from_near {d = suc d} {S₀ = S₀ + S a} {n = n ⊞ y a} (s ⊕ g a) l (omega arith) (add_near f e (near_more h (ts.0 (add_finite f s (g a) u).1)) u) ts.1 t)

    -- ---- THE law of a sum from left to right: d terms, each (where it is finite) after c roundings, are c + d - 1 roundings, and within (c + d) / 2 ^ prec
    pub sum_within : (l : List A) → All (λ a. T (finite (g a)) → Near f c K (g a) (y a) (S a)) l → T (finite (total f g l))
        → (c + length l) * (c + length l) ≤ 2 ^ prec f → Within (2 ^ prec f) (c + length l) K (value f (total f g l)) (exact_sum y l) (sum_of S l)
    unfolding fold sum_of
    sum_within [] ts t h = rw (zero_value f) (record { within = size_times _ (2 ^ prec f) _ (omega arith) (omega arith) })
    sum_within (a ∷ l) ts t h =
        let u = from_finite (nought ⊕ g a) l t in
        let v = (add_finite f nought (g a) u).1 in
        let e = ts.0 v in
        let z = zero_add f nought (g a) (zero_number f) (record { fit = e.fit; fine = v }) (rw (zero_value f)) in
        let r = from_near (nought ⊕ g a) l (le_refl c) (near_same (nought ⊕ g a) (add-fits f nought (g a)) z.1 e) ts.1 t in
        rw (more (length l)) (near_within (le_trans (mul-le-mul (less (length l)) (le_of_eq (next (length l)))) h) r)
      where
        more : (n : ℕ) → c + suc n ≡ suc (c + n)
        more n = omega arith

        less : (n : ℕ) → c + n ≤ c + suc n
        less n = omega arith

        next : (n : ℕ) → c + n + 1 ≡ c + suc n
        next n = omega arith

-- ---- the same of given floats: n of them, within n / 2 ^ prec of the sum of their sizes
pub plain_sum : (f : Format) (l : List Float) → All (λ x. T (fits f x)) l → T (finite (total f (λ x. x) l)) → length l * length l ≤ 2 ^ prec f
    → Within (2 ^ prec f) (length l) 1 (value f (total f (λ x. x) l)) (exact_sum (value f) l) (sum_of (mag f) l)
plain_sum f l a t h =
    let n : length l ≡ 0 + length l = omega arith in
    rw (← n) at (sum_within f (λ x. x) 0 1 (value f) (mag f) l (all_map (λ x p t. near_own p) l a) t (rw (← n) h))

-- ---- by halves
module _ (f : Format) where
  open ops f use {◌⊕◌, zero as nought}

  infixl 75 ◌⊕◌
  near_zero : (k : ℕ) → Near f k 1 nought (signed false 0) 0
  near_zero k = near_more (omega arith) (near_exact (zero_number f).fit (omega arith) (rw (zero_value f)) (omega arith))

  halve_near : (n k : ℕ) (l : List Float) → length l ≤ n → length l ≤ 2 ^ k → All (λ x. T (fits f x)) l → T (finite (halve f n l))
      → Near f k 1 (halve f n l) (exact_sum (value f) l) (sum_of (mag f) l)
  unfolding halve sum_of
  halve_near zero k [] h g a t = near_zero k
  halve_near zero k (x ∷ l) h g a t = absurd (omega arith)
  halve_near (suc n) k [] h g a t = near_zero k
  halve_near (suc n) k (x ∷ []) h g a t = near_more {c = 0} (omega arith) (near_as refl (omega arith) (omega arith) (omega arith) (near_own a.0))
  halve_near (suc n) zero (x ∷ y ∷ l) h g a t = absurd (omega arith)
  halve_near (suc n) (suc k) (x ∷ y ∷ l) h g a t =
      let L = x ∷ y ∷ l in
      let i = length L / 2 in
      let g' : length L ≤ 2 ^ k * 2 = rw (pow-suc 2 k) at g in
      let u = add_finite f (halve f n (take i L)) (halve f n (drop i L)) t in
      near_as refl (sum_split (λ x. (value f x).plus) i L) (sum_split (λ x. (value f x).minus) i L) (sum_split (mag f) i L)
      (add_near f
      (halve_near n k (take i L) (rw (length-take i L) (omega arith)) (rw (length-take i L) (omega arith)) (all_take _ i L a) u.0)
      (halve_near n k (drop i L) (rw (length-drop i L) (omega arith)) (rw (length-drop i L) (omega arith)) (all_drop _ i L a) u.1) t)

  -- ---- THE law of a sum by halves: n floats, n at most 2 ^ k, are k roundings, and within (k + 1) / 2 ^ prec of the sum of their sizes
  pub halves_within : (k : ℕ) (l : List Float) → length l ≤ 2 ^ k → All (λ x. T (fits f x)) l → T (finite (halves f l)) → k * (k + 1) ≤ 2 ^ prec f
      → Within (2 ^ prec f) (suc k) 1 (value f (halves f l)) (exact_sum (value f) l) (sum_of (mag f) l)
  halves_within k l g a t h = near_within h (halve_near (length l) k l (le_refl (length l)) g a t)

  -- more steps than values change nothing
  halve_enough : (n m : ℕ) (l : List Float) → length l ≤ n → length l ≤ m → halve f n l ≡ halve f m l
  unfolding halve
  halve_enough zero zero l h k = refl
  halve_enough zero (suc m) [] h k = refl
  halve_enough zero (suc m) (x ∷ l) h k = absurd (omega arith)
  halve_enough (suc n) zero [] h k = refl
  halve_enough (suc n) zero (x ∷ l) h k = absurd (omega arith)
  halve_enough (suc n) (suc m) [] h k = refl
  halve_enough (suc n) (suc m) (x ∷ []) h k = refl
  halve_enough (suc n) (suc m) (x ∷ y ∷ l) h k =
      let L = x ∷ y ∷ l in
      let i = length L / 2 in
      rw (
        halve_enough n m (take i L) (rw (length-take i L) (omega arith)) (rw (length-take i L) (omega arith)),
        halve_enough n m (drop i L) (rw (length-drop i L) (omega arith)) (rw (length-drop i L) (omega arith)),
      )

  -- ---- what `halves` is, without a count of steps: exact for no value and for one
  pub halves_none : halves f [] ≡ nought
  unfolding halve
  halves_none = refl

  pub halves_one : (x : Float) → halves f (x ∷ []) ≡ x
  unfolding halve
  halves_one x = refl

  pub halves_more : (l : List Float) → 2 ≤ length l → halves f l ≡ halves f (take (length l / 2) l) ⊕ halves f (drop (length l / 2) l)
  unfolding halve
  halves_more [] h = absurd (omega arith)
  halves_more (x ∷ []) h = absurd (omega arith)
  halves_more (x ∷ y ∷ l) h =
      let L = x ∷ y ∷ l in
      let i = length L / 2 in
      rw (
        halve_enough (suc (length l)) (length (take i L)) (take i L) (rw (length-take i L) (omega arith)) (le_refl (length (take i L))),
        halve_enough (suc (length l)) (length (drop i L)) (drop i L) (rw (length-drop i L) (omega arith)) (le_refl (length (drop i L))),
      )
