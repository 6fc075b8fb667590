-- The masses taken three by three are those of the points in order.
use Rattle.std.proofs.Common.{◌≡◌, refl, List, [], ◌∷◌, map, length, get_or, take, drop, ℕ, zero, suc, ◌+◌, ◌*◌, ◌/◌, ◌≤◌, ◌<◌, Float, arith}
use Rattle.std.specs.Float.{nan}
use Rattle.std.specs.List.{range_with_len}
use borrow.Author.Tests.{lt-ltb}
use lib.Seq.{drop-drop}
use Rattle.std.specs.Simd.{first_chunks}
use Rattle.survey.specs.Survey.{mass_at}

taken : (l : List Float) → get_or (take 3 l) 0 nan ≡ get_or l 0 nan
taken [] = refl
taken (x ∷ l) = refl

dropped : (l : List Float) (k : ℕ) → get_or (drop k l) 0 nan ≡ get_or l k nan
dropped [] zero = refl
dropped [] (suc k) = refl
dropped (x ∷ l) zero = refl
dropped (x ∷ l) (suc k) = dropped l k

module _ (mass : List Float) where
  at_place : (i : ℕ) → i < length mass / 3 → mass_at mass i ≡ get_or mass (i * 3) nan
  at_place i h = rw (lt-ltb _ _ h)

  from : (a k : ℕ) → a + k ≤ length mass / 3 → map (λ m. get_or m 0 nan) (first_chunks 3 k (drop (a * 3) mass)) ≡ map (mass_at mass) (range_with_len a k)
  from a zero h = refl
  from a (suc k) h =
      let e : a * 3 + 3 ≡ (a + 1) * 3 = omega arith in
      rw (taken (drop (a * 3) mass), dropped mass (a * 3), drop-drop 3 (a * 3) mass, e, from (a + 1) k (omega arith), at_place a (omega arith)) refl

  pub by_threes : map (λ m. get_or m 0 nan) (first_chunks 3 (length mass / 3) mass) ≡ map (mass_at mass) (range_with_len 0 (length mass / 3))
  by_threes = from 0 (length mass / 3) (omega arith)
