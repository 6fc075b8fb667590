-- The root at n is at most three above the entry that is read: two steps of 2 and of 1 find it. By its rule it is the list's entry at n.
use Rattle.std.proofs.Common.{◌≡◌, ℕ, ◌+◌, ◌*◌, ◌/◌, ◌<◌, ◌≤◌, get_or, mul-le-mul, arith}
use native.Mathlib.Decide.{dec_le}
use Rattle.whole_root.specs.Starts.{starts, Start}
use Rattle.whole_root.proofs.Whole.{sq_lt_back}
use Rattle.whole_root.proofs.Starts.{rule, one_start}
use Rattle.whole_root.proofs.list.start.Goals as goal

module _ (n s : ℕ) (in-n : (256 ≤ n) × (n < 1024)) (e : s ≡ get_or starts (n / 128 * 128) 0) where
  at_k : Start (n / 128 * 128) s
  at_k = rw e (rule (n / 128 * 128) (omega (arith, in-n)))

  -- from 384 on s is at least 19, and before that at least 16
  close : Dec (384 ≤ n) → n < (s + 2 * 2) * (s + 2 * 2)
  close (yes h) = omega (arith, at_k.upper, sq_lt_back 19 (s + 1) (omega (arith, at_k.upper)))
  close (no h) =
      let k : 20 ≤ s + 2 * 2 = omega (arith, sq_lt_back 16 (s + 1) (omega (arith, at_k.upper, in-n))) in
      omega (arith, mul-le-mul k k)

  asked : (s * s ≤ n) × (n < (s + 2 * 2) * (s + 2 * 2)) × (n < 1024) × (2 ≤ 2)
  asked = (omega (arith, at_k.lower), close (dec_le 384 n), in-n.1, omega arith)

pub stepped-requires : goal.stepped-requires
stepped-requires c = asked _ _ c.requires (rw c.all.ensures at c.entry-s.ensures)

pub returns : goal.returns
returns c =
    let found : Start c.args.n c.stepped-2.result = record { lower = c.stepped-2.ensures.0; upper = c.stepped-2.ensures.1 } in
    record { value = one_start c.args.n _ _ found (rule c.args.n c.requires.1); rule = found }
