-- `total_mass` meets its contract: the masses taken three by three are those of the points.
use Rattle.std.proofs.Common.{rules, ◌∙◌, ap, get_or, length, ◌/◌}
use Rattle.std.specs.Float.{binary64, nan}
use Rattle.std.specs.List.{fold}
use Rattle.std.specs.Simd.{first_chunks}
use Rattle.std.proofs.lemmas.Iterator.{YieldsList-from_slice, YieldsList-from_map}
use Rattle.std.proofs.lemmas.Iterator.Consumers.{YieldsList-at, fold_from_yields_List}
use Rattle.float.specs.Ops.{ops}
use Rattle.survey.specs.Survey.{mass_at, total_of}
use Rattle.survey.proofs.Chains.{folded_at}
use Rattle.survey.proofs.Masses.{by_threes}
use Rattle.survey.proofs.Weighed.total_mass.Goals as goal
open ops binary64 use {◌⊕◌, zero as nought}

infixl 75 ◌⊕◌
pub returns : goal.returns
unfolding total_of
returns c = let mass = c.args.self.now.mass.now in
    fold_from_yields_List _ (λ s m. s ⊕ m) _ _ c.fold.ensures.ran
    (YieldsList-from_map _ (λ m. get_or m 0 nan) (YieldsList-at c.map.ensures.source (YieldsList-from_slice (first_chunks 3 (length mass / 3) mass) (cc))) c.map.ensures.closure (λ x r q k. search rules))
    (λ a x b q k. search rules)
    ∙ ap (fold (λ s m. s ⊕ m) nought) (by_threes mass) ∙ folded_at (λ s m. s ⊕ m) (mass_at mass) nought (length mass / 3)
