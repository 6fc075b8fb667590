-- What is known of a panel or a skin that passed a test: its lengths, and each of its names.
use mathlib.Core.Path.{◌≡◌}
use mathlib.Core.Bool.{true, false, ◌&&◌}
use mathlib.Core.List.{List}
use Prim.Native.Nat.{ℕ, ◌+◌, ◌*◌, ◌/◌, ◌%◌, ◌≤◌, ◌<◌}
use native.Mathlib.Omega.{arith}
use lib.Dec.{leb, ltb, eqb}
use lib.ListN.{length, get_or}
use borrow.Author.Tests.{leb-true, ltb-true, eqb-true, not-false}
use Rattle.float.proofs.Scan.{both, every_at}
use Rattle.refusal.specs.Panel.{max_vertices, max_triangles, within_limits, bad_length_of, names_below}

pub within : (vertices names : ℕ) → within_limits vertices names ≡ true → (vertices ≤ max_vertices) × (names % 3 ≡ 0) × (names / 3 ≤ max_triangles)
unfolding within_limits
within vertices names e =
    let l = both (leb vertices max_vertices && eqb (names % 3) 0) _ e in
    let k = both (leb vertices max_vertices) _ l.0 in
    (leb-true _ _ k.0, eqb-true _ _ k.1, leb-true _ _ l.1)

pub sized : (vertices names places : ℕ) → bad_length_of vertices names places ≡ false → (names % 3 ≡ 0) × (places ≡ vertices * 3) × (names ≤ max_triangles * 3)
unfolding bad_length_of
sized vertices names places e =
    let l = both (within_limits vertices names) _ (not-false _ e) in
    let w = within vertices names l.0 in
    (w.1, eqb-true _ _ l.1, omega (arith, w.1, w.2))

pub named : (count : ℕ) (names : List ℕ) → names_below count names ≡ true → (k : ℕ) → k < length names → get_or names k 0 < count
named count names e k h = ltb-true _ _ (every_at (λ name. ltb name count) names k 0 e h)

-- where a loop takes three names: the last of them is in the list, and each is a vertex's
pub record Three (count : ℕ) (names : List ℕ) (i : ℕ) : Type 0 where
  pub inside : i + 2 < length names
  pub first : get_or names i 0 < count
  pub second : get_or names (i + 1) 0 < count
  pub third : get_or names (i + 2) 0 < count

pub at_three : (count : ℕ) (names : List ℕ) → length names % 3 ≡ 0 → names_below count names ≡ true → (i : ℕ) → i % 3 ≡ 0 → i < length names → Three count names i
at_three count names threes below i third less =
    let h : i + 2 < length names = omega arith in
    record { inside = h; first = named _ _ below i less; second = named _ _ below (i + 1) (omega arith); third = named _ _ below (i + 2) h }
