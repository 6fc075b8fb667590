-- `line_of` meets its contract: it counts the newlines before the place.
use Rattle.std.proofs.Common.{rules, tests, ◌≡◌, ◌∙◌, sym, ap, ◌+◌, length, filter, take, min, eqb, arith}
use Rattle.std.proofs.lemmas.Iterator.{YieldsList-from_slice}
use Rattle.std.proofs.lemmas.Iterator.Consumers.{YieldsList-at, YieldsList-from_filter, count_from_yields_List}
use Rattle.std.proofs.lemmas.List.Sums.{length-filter}
use Rattle.survey.specs.Survey.{line_of}
use Rattle.survey.proofs.Places.{turns}
use Rattle.survey.proofs.line_of.Goals as goal

pub returns : goal.returns
unfolding line_of
returns c = let file = c.args.file.now in let before = take (min c.args.place (length file)) file in
    let e : c.count.result ≡ length (filter (λ b. eqb b 10) before) =
    count_from_yields_List c.filter.result _ c.count.ensures.ran
    (YieldsList-from_filter _ (λ b. eqb b 10) (YieldsList-at c.filter.ensures.source (YieldsList-from_slice before (c.iter.ensures.rest ∙ ap (λ n. take n file) c.min.ensures))) c.filter.ensures.closure (λ x r q k. search (rules, tests))) in
    ap (λ n. n + 1) (e ∙ length-filter (λ b. eqb b 10) before) ∙ sym (turns file c.args.place (length file) (omega arith))
