-- `wdw_green_lagrange` meets its contract: its tests are the definition's, and where none of them holds the values are given.
use Rattle.std.proofs.lemmas.Result.{err_from_is_err_and}
use Rattle.std.specs.Float.{binary64}
use Rattle.stvk_tri3.specs.Strain.{tests_of, answer_of}
use Rattle.stvk_tri3.proofs.Given.{refused, taken}
use Rattle.stvk_tri3.proofs.wdw_green_lagrange.Goals as goal

pub returns-in_err-check : goal.returns-in_err-check
unfolding tests_of answer_of
returns-in_err-check c =
    let p = err_from_is_err_and c.from_residual.result c.from_residual.ensures.1 in
    let r = refused binary64 c.in_err-check.field-0.0 c.values_of-values.result c.in_err-check.ensures in
    rw (p.1, p.2) (cc)

pub returns : goal.returns
unfolding tests_of answer_of
returns c =
    let t = taken binary64 c.values_of-values.result c.in_ok-check.ensures in
    cc
