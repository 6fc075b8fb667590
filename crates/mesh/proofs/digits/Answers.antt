-- `digits`: a digit is taken, or there are six, or the next byte is no digit, or the file ends.
use Rattle.std.proofs.Common.{◌≤◌, length, inl, inr, arith, sym, ◌∙◌, ap}
use Rattle.std.specs.Char.{IsAsciiDigit}
use Rattle.mesh.specs.Items.{digits}
use Rattle.mesh.proofs.Scans.{digits_ended, digits_six, digits_other, digits_more, tail}
use Rattle.mesh.proofs.digits.Goals.{then-n-ge100000-via-then-n-ge100000, then-n-ge100000-via-else-n-ge100000+then-not-is_ascii_digit}
use Rattle.mesh.proofs.digits.Goals as goal

pub returns-in_default : goal.returns-in_default
returns-in_default c =
    let outside : length c.args.file.now ≤ c.args.at = elim c.in_default.ensures.lookup.0 [ inl h ↦ omega arith | inr h ↦ omega arith ] in
    sym (digits_ended _ _ 0 outside)

pub loop-c-init : goal.loop-c-init
loop-c-init c = let h = c.in-Some.ensures.lookup in ap (digits 0) (h.0.2 ∙ tail c.args.file.now c.args.at)

pub returns-then-n-ge100000 : goal.returns-then-n-ge100000
returns-then-n-ge100000 c =
    let i = c.loop-c-test.true in
    elim c.then-n-ge100000.branch [
      | then-n-ge100000-via-then-n-ge100000 w ↦ sym (digits_six _ _ _ i w.if-n-ge100000.true) ∙ c.loop-c.invariant
      | then-n-ge100000-via-else-n-ge100000+then-not-is_ascii_digit w ↦ sym (digits_other _ _ _ i (rw w.if-not-is_ascii_digit.true at w.is_ascii_digit.ensures.cases)) ∙ c.loop-c.invariant
    ]

pub loop-c-preserved : goal.loop-c-preserved
loop-c-preserved c = let is : IsAsciiDigit _ = rw c.if-not-is_ascii_digit.false at c.is_ascii_digit.ensures.cases in digits_more _ _ _ c.loop-c-test.true c.if-n-ge100000.false (omega arith) (omega arith) ∙ c.loop-c.invariant

pub returns : goal.returns
returns c = sym (digits_ended _ _ _ c.loop-c-test.false) ∙ c.loop-c.invariant
