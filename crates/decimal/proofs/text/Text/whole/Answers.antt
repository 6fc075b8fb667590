-- `whole` meets its contract: the text is std's.
use Rattle.std.proofs.Common.{arith, ap, length, length-drop}
use Rattle.decimal.proofs.Digits.{whole_decimal}
use Rattle.decimal.proofs.text.Text.whole.Goals as goal

pub write_digits-self-inside-requires : goal.write_digits-self-inside-requires
write_digits-self-inside-requires c =
    (omega (arith, rw (whole_decimal c.args.n (omega arith)) at c.requires, simp length-drop at (ap length c.self.view_is)), omega arith)

pub returns : goal.returns
returns c = rw (c.write_digits-self-inside.ensures.written, whole_decimal c.args.n (omega arith), c.self.view_is)
