-- `wdw` meets its contract: its tests are the definition's, and where none of them holds the values are given.
use Rattle.std.proofs.lemmas.Result.{err_from_is_err_and}
use Rattle.std.specs.Float.{binary64}
use Rattle.bending.specs.Bending.{wdw_of}
use Rattle.quadratic_bending.specs.Bending.{tests_of, answer_of}
use Rattle.quadratic_bending.proofs.Given.{refused, taken}
use Rattle.quadratic_bending.proofs.wdw.Goals as goal

pub returns-in_err-kernel : goal.returns-in_err-kernel
unfolding wdw_of tests_of answer_of
returns-in_err-kernel c =
    let p = err_from_is_err_and c.from_residual.result c.from_residual.ensures.1 in
    let r = refused binary64 c.in_err-kernel.field-0.0 c.w-w.result c.dwdp-dwdp.result c.in_err-kernel.ensures in
    rw (p.1, p.2) (cc)

pub returns : goal.returns
unfolding wdw_of tests_of answer_of
returns c =
    let t = taken binary64 (record { w = c.w-w.result; dwdp = c.dwdp-dwdp.result }) c.in_ok-kernel.ensures in
    cc
