-- The fold looks at each number in turn.
use Rattle.std.proofs.Common.{◌&&◌, ◌∙◌, true, rules, tests}
use Rattle.std.specs.Float.Ieee.Scale.{finite}
use Rattle.std.proofs.lemmas.Iterator.{YieldsList-from_slice}
use Rattle.std.proofs.lemmas.Iterator.Consumers.{fold_from_yields_List}
use Rattle.float.proofs.All.{every_fold}
use Rattle.lists.proofs.each_finite.Goals as goal

pub returns : goal.returns
returns c =
    fold_from_yields_List _ (λ b x. b && finite x) true _ c.fold.ensures.ran (YieldsList-from_slice c.args.xs.now (cc)) (λ b x r q k. search (rules, tests))
    ∙ every_fold finite _
