-- The list's entry is the loop after five turns; a turn finds the digit 0 or 1; after 53 the digits are all there.
use Rattle.std.proofs.Common.{◌≡◌, ℕ, ◌+◌, ◌*◌, ◌^◌, ◌<◌, ◌≤◌, lt_of_lt_of_le, arith, pow_mono}
use Rattle.whole_root.specs.Steps.{Digits}
use Rattle.whole_root.proofs.Turn.{Turn, turn_0, turn_1}
use Rattle.whole_root.proofs.Whole.{root_pos}
use Rattle.whole_root.proofs.Starts.{started}
use Rattle.whole_root.proofs.digits.Goals as goal
use Rattle.whole_root.proofs.digits.Goals.{then-w-t, else-w-t}

carried : {a i s r b : ℕ} → i ≤ 53 → Turn a i s r b → Turn a i s r b × (s < 2 ^ 53)
carried h t = (t, lt_of_lt_of_le t.small (pow_mono h))

ended : (a s r b : ℕ) → 0 < a → Turn (a * 2 ^ 10) 53 s r b × (s < 2 ^ 53) → Digits (a * 2 ^ 52) s r
ended a s r b p t =
    let sum : s * s + r ≡ a * 2 ^ 52 = omega (arith, t.0.sum, t.0.window) in
    record { sum = sum; left = t.0.left; some = root_pos 0 s r (a * 2 ^ 52) (omega arith) sum (omega (arith, t.0.left)); below = t.1 }

pub overflow_mul-r : goal.overflow_mul-r
overflow_mul-r c = omega (arith, c.start-s.ensures.rule.lower)

pub loop-init : goal.loop-init
loop-init c = carried (omega arith) (started c.args.a _ c.requires.below c.start-s.ensures.rule)

pub loop-preserved : goal.loop-preserved
loop-preserved c =
    carried (omega arith) (elim c.if-w-t.branch [
      | then-w-t w ↦ rw (w.s-is, w.r-is) (turn_0 c.loop.invariant.0 w.if-w-t.true)
      | else-w-t w ↦ rw (w.s-is, w.r-is) (turn_1 c.loop.invariant.0 w.if-w-t.false)
    ])

pub returns : goal.returns
returns c =
    let all : c.loop.counter ≡ 53 = omega arith in
    ended c.args.a _ _ _ (omega arith) (rw all at c.loop.invariant)
