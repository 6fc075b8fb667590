-- `show` meets its contract: the text is put at the right of the field, and the rest is filled.
use Rattle.std.proofs.Common.{◌≡◌, ◌∙◌, min}
use Rattle.decimal.specs.Text.{text_of}
use Rattle.decimal.proofs.Digits.{too_short, placed}
use Rattle.decimal.proofs.text.show.Goals as goal

pub returns-in_default : goal.returns-in_default
returns-in_default c =
    let is : c.as_bytes-bytes.result.now ≡ text_of (min c.args.k 9) c.args.amount = c.as_bytes-bytes.ensures ∙ c.of-text.ensures ∙ rw c.min.ensures in
    too_short c.args.field.now is c.in_default.ensures (c.fill.ensures.after (λ y e. e))

pub returns : goal.returns
returns c =
    let is : c.as_bytes-bytes.result.now ≡ text_of (min c.args.k 9) c.args.amount = c.as_bytes-bytes.ensures ∙ c.of-text.ensures ∙ rw c.min.ensures in
    placed c.args.field.now is c.in-Some.ensures.0 c.in-Some.ensures.1 (rw c.split_at_mut-blanks.ensures.front_len at (c.fill-2.ensures.after (λ y e. e))) c.copy_from_slice.ensures.after
