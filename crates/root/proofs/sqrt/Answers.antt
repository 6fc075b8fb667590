-- Each way out is a case of the rule, and the rule alone makes the statement.
use Rattle.std.proofs.Common.{◌∙◌}
use lib.Dec.{T}
use lib.Ieee.{binary64, fits}
use lib.Ieee.Bits.{of_bits-to_bits}
use Rattle.float.proofs.Bits.{nan_word_lem}
use Rattle.float.proofs.Patterns.{above_zero, above_pattern, equals_zero}
use Rattle.root.proofs.Rule.{by_nearest, at_infinity, at_zero, at_others}
use Rattle.root.proofs.RootOf.{answered}
use Rattle.root.proofs.sqrt.Goals as goal

pub positive-requires : goal.positive-requires
positive-requires c = (above_pattern binary64 _ (rw c.well_formed.0.1 tt) (above_zero binary64 _ ∙ c.if-x.true), c.if-b-lt-INFINITY_WORD.true)

pub returns-then-b-lt-INFINITY_WORD : goal.returns-then-b-lt-INFINITY_WORD
returns-then-b-lt-INFINITY_WORD c =
    let fit : T (fits binary64 c.args.x) = rw c.well_formed.0.1 tt in
    answered binary64 _ _ fit (by_nearest binary64 _ _ (rw (of_bits-to_bits binary64 _ fit) at c.positive.ensures))

pub returns-then-x : goal.returns-then-x
returns-then-x c =
    let fit : T (fits binary64 c.args.x) = rw c.well_formed.0.1 tt in
    answered binary64 _ _ fit (at_infinity binary64 _ fit (above_zero binary64 _ ∙ c.if-x.true) c.if-b-lt-INFINITY_WORD.false)

pub returns-then-x-2 : goal.returns-then-x-2
returns-then-x-2 c = answered binary64 _ _ (rw c.well_formed.0.1 tt) (at_zero binary64 c.args.x (equals_zero binary64 _ ∙ c.if-x-2.true))

pub returns-else-x-2 : goal.returns-else-x-2
returns-else-x-2 c =
    answered binary64 _ _ (rw c.well_formed.0.1 tt)
    (at_others binary64 c.args.x _ (above_zero binary64 _ ∙ c.if-x.false) (equals_zero binary64 _ ∙ c.if-x-2.false) (nan_word_lem binary64))
