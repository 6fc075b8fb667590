-- `read` meets its contract: at each turn, the bytes from here on give after those so far what the text gives.
use Rattle.std.proofs.Common.{◌≡◌, ◌∙◌, ap, arith, cond, Ok}
use Rattle.decimal.proofs.Scans.{small_enough, wanting, done, too_many, no_digit, no_point, digit, point, is_number}
use Rattle.decimal.proofs.reading.read.Goals as goal
use Rattle.decimal.proofs.reading.read.Goals.{in-46, in-48-to-57, then-pointed, else-pointed}

pub overflow_mul-m : goal.overflow_mul-m
overflow_mul-m c = omega (arith, small_enough c.loop-at.invariant)

pub overflow_add-m : goal.overflow_add-m
overflow_add-m c = omega (arith, small_enough c.loop-at.invariant)

pub returns-in_default : goal.returns-in_default
returns-in_default c = is_number _ _ _ (no_point c.loop-at.invariant c.loop-at-test.true c.in-46.is c.if-pointed-since.false)

pub returns-in_default-2 : goal.returns-in_default-2
returns-in_default-2 c = is_number _ _ _ (no_digit c.loop-at.invariant c.loop-at-test.true (λ h. omega arith) (λ e. omega arith))

pub returns-in_default-3 : goal.returns-in_default-3
returns-in_default-3 c = is_number _ _ _ (too_many c.loop-at.invariant c.loop-at-test.true (omega arith) (omega arith) c.if-left-gt0.false)

pub returns-in_default-4 : goal.returns-in_default-4
returns-in_default-4 c = is_number _ _ _ (no_digit c.loop-at.invariant c.loop-at-test.true (λ h. omega arith) (λ e. omega arith))

pub loop-at-preserved : goal.loop-at-preserved
loop-at-preserved c =
    elim c.match-c.branch [
      | in-46 w ↦ rw (w.m-is, w.left-is, w.since-is, w.pointed-is) (point c.loop-at.invariant c.loop-at-test.true w.in-46.is w.if-pointed-since.true)
      | in-48-to-57 w ↦ rw (w.m-is, w.left-is, w.since-is, w.pointed-is, w.from.ensures) (digit c.loop-at.invariant c.loop-at-test.true (omega arith) (omega arith) w.if-left-gt0.true)
    ]

pub returns-then-since-eq0 : goal.returns-then-since-eq0
returns-then-since-eq0 c = is_number _ _ _ (wanting c.loop-at.invariant (omega arith) c.if-since-eq0.true)

pub value-requires : goal.value-requires
value-requires c = (
  small_enough c.loop-at.invariant,
  omega arith,
  elim c.if-pointed.branch [
    | then-pointed w ↦ omega (arith, c.loop-at.invariant.fewer w.if-pointed.true)
    | else-pointed w ↦ omega arith
  ],
)

pub returns : goal.returns
returns c =
    let places : c.if-pointed.places ≡ cond c.loop-at.pointed c.loop-at.since 0 =
    elim c.if-pointed.branch [ then-pointed w ↦ rw (w.places-is, w.if-pointed.true) | else-pointed w ↦ rw (w.places-is, w.if-pointed.false) ] in
    is_number _ _ _ (ap Ok c.value.ensures ∙ rw (c.min.ensures, c.min-2.ensures) (done c.loop-at.invariant c.loop-at-test.false c.if-since-eq0.false places))
