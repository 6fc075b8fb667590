-- The fold looks at each name in turn.
use Rattle.std.proofs.Common.{◌&&◌, ◌∙◌, true, rules, tests}
use Rattle.std.proofs.lemmas.Iterator.{YieldsList-from_slice}
use Rattle.std.proofs.lemmas.Iterator.Consumers.{fold_from_yields_List}
use lib.Dec.{ltb}
use Rattle.float.proofs.All.{every_fold}
use Rattle.refusal.proofs.names_below.Goals as goal

pub returns : goal.returns
returns c =
    fold_from_yields_List _ (λ b name. b && ltb name c.args.count) true _ c.fold.ensures.ran (YieldsList-from_slice c.args.names.now (cc)) (λ b name r q k. search (rules, tests))
    ∙ every_fold (λ name. ltb name c.args.count) _
