-- `of` meets its contract: every text is short enough.
use Rattle.std.proofs.Common.{arith, true, length-append}
use Rattle.decimal.specs.declared.units.Amount.TheVariants.{Count}
use Rattle.decimal.proofs.Texts.{short}
use Rattle.decimal.proofs.text.Text.of.Goals as goal

pub numeral-requires : goal.numeral-requires
numeral-requires c = rw c.new-text.ensures (omega (arith, short c.args.k (Count true c.in-Count.n) c.requires (omega arith)))

pub put-requires : goal.put-requires
put-requires c =
    rw c.numeral.ensures (simp length-append (rw c.new-text.ensures (omega (arith, short c.args.k (Count true c.in-Count.n) c.requires (omega arith)))))
