-- `idle` meets its contract: the masses taken three by three are those of the points.
use Rattle.std.proofs.Common.{rules, tests, ◌∙◌, ap, get_or, length, filter, ◌/◌}
use Rattle.std.specs.Float.{binary64, nan}
use Rattle.std.specs.Float.Ieee.{eq}
use Rattle.std.proofs.lemmas.Iterator.{YieldsList-from_slice, YieldsList-from_map}
use Rattle.std.proofs.lemmas.Iterator.Consumers.{YieldsList-at, YieldsList-from_filter, count_from_yields_List}
use Rattle.float.specs.Ops.{ops}
use Rattle.survey.specs.Survey.{mass_at, idle_of}
use Rattle.survey.proofs.Chains.{counted}
use Rattle.survey.proofs.Masses.{by_threes}
use Rattle.survey.proofs.Weighed.idle.Goals as goal
open ops binary64 use {zero as nought}

pub returns : goal.returns
unfolding idle_of
returns c = let mass = c.args.self.now.mass.now in
    count_from_yields_List c.filter.result _ c.count.ensures.ran
    (YieldsList-from_filter _ (λ m. eq m nought)
    (YieldsList-at c.filter.ensures.source (YieldsList-from_map _ (λ m. get_or m 0 nan) (YieldsList-at c.map.ensures.source (YieldsList-from_slice _ (cc))) c.map.ensures.closure (λ x r q k. search rules)))
    c.filter.ensures.closure (λ x r q k. search (rules, tests)))
    ∙ ap (λ l. length (filter (λ m. eq m nought) l)) (by_threes mass) ∙ counted (λ m. eq m nought) (mass_at mass) (length mass / 3)
