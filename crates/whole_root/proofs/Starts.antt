-- The list has its rule at every entry, by one computed test and one law; one number alone has it; and it starts the digit loop.
use Rattle.std.proofs.Common.{◌≡◌, ℕ, zero, suc, ◌+◌, ◌-◌, ◌*◌, ◌/◌, ◌%◌, ◌^◌, ◌<◌, ◌≤◌, Bool, true, ◌&&◌, T, ltb, leb, List, [], ◌∷◌, length, get_or, le_of_suc-le-suc, not-suc-le-zero, add-zero, add-suc, suc-add, zero-add, arith, ltb→lt, leb→le}
use lib.Ieee.Fits.{and_l, and_r}
use Rattle.whole_root.specs.Starts.{starts, Start}
use Rattle.whole_root.proofs.Turn.{Turn}
use Rattle.whole_root.proofs.Whole.{sq_lt_back}

-- ---- the rule as a test of the entries from the place n on, and the law that a list which passes has the rule at each
abbrev right : ℕ → ℕ → Bool
right n r = leb (r * r) n && ltb n ((r + 1) * (r + 1))

abbrev passed : ℕ → List ℕ → Bool
passed n [] = true
passed n (r ∷ rs) = right n r && passed (suc n) rs

passed_at : (rs : List ℕ) (n i : ℕ) → T (passed n rs) → i < length rs → Start (n + i) (get_or rs i 0)
passed_at [] n i t h = absurd (not-suc-le-zero h)
passed_at (r ∷ rs) n zero t h =
    let b = and_l (right n r) (passed (suc n) rs) t in
    rw (add-zero n) record { lower = leb→le (r * r) n (and_l (leb (r * r) n) _ b); upper = ltb→lt n _ (and_r (leb (r * r) n) _ b) }
passed_at (r ∷ rs) n (suc i) t h = rw (add-suc n i, ← suc-add n i) (passed_at rs (suc n) i (and_r (right n r) _ t) (le_of_suc-le-suc h))

-- the list passes: it is computed
pub rule : (n : ℕ) → n < 1024 → Start n (get_or starts n 0)
unfolding starts
rule n h = rw (zero-add n) at (passed_at starts 0 n tt h)

-- ---- what the rule says of an entry
pub one_start : (n r s : ℕ) → Start n r → Start n s → r ≡ s
one_start n r s a b =
    let p = sq_lt_back r (s + 1) (omega (arith, a.lower, b.upper)) in
    let q = sq_lt_back s (r + 1) (omega (arith, b.lower, a.upper)) in
    omega arith

-- from 256 on a root has five binary digits
pub five : (n s : ℕ) → (256 ≤ n) × (n < 1024) → Start n s → (16 ≤ s) × (s < 32)
five n s h r = (omega (arith, sq_lt_back 16 (s + 1) (omega (arith, h.0, r.upper))), sq_lt_back s 32 (omega (arith, h.1, r.lower)))

-- the entry at the top ten digits of a is the digit loop after five turns
pub started : (a s : ℕ) → a < 2 ^ 54 → Start (a / 2 ^ 44) s → Turn (a * 2 ^ 10) 5 s (a / 2 ^ 44 - s * s) (a % 2 ^ 44 * 2 ^ 20)
started a s h r = record {
  sum = omega (arith, r.lower);
  left = omega (arith, r.upper);
  window = omega arith;
  small = sq_lt_back s 32 (omega (arith, r.lower));
}
