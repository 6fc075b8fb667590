-- `wdwddw_` meets its contract: its tests are the definition's, and where none of them holds the numbers are given.
use Rattle.std.proofs.lemmas.Result.{err_from_is_err_and}
use Rattle.std.specs.Float.{binary64}
use Rattle.refusal.proofs.EnergyGiven.{refused, taken}
use Rattle.stvk.specs.Stvk.{state_of, wdwddw_of}
use Rattle.stvk_tri3.specs.Stvk.{tests_of, stvk_of}
use Rattle.stvk_tri3.proofs.wdwddw_.Goals as goal

pub returns-in_err-kernel : goal.returns-in_err-kernel
unfolding state_of wdwddw_of tests_of stvk_of
returns-in_err-kernel c =
    let p = err_from_is_err_and c.from_residual.result c.from_residual.ensures.1 in
    let r = refused binary64 c.in_err-kernel.field-0.0 c.w-w.result c.dw-dw.result c.ddw-ddw.result c.in_err-kernel.ensures in
    rw (p.1, p.2, r, c.tests-tests.ensures, c.bad_energy.ensures, c.zero_divisor.ensures, c.is_finite-2.ensures, c.is_finite.ensures)
    (rw (c.ddw-ddw.ensures, c.dw-dw.ensures, c.w-w.ensures, c.state_of-s.ensures, c.lame-lame.ensures, c.from-p1.ensures, c.from-p0.ensures))

pub returns : goal.returns
unfolding state_of wdwddw_of tests_of stvk_of
returns c =
    rw (taken binary64 (record { w = c.w-w.result; dw = c.dw-dw.result; ddw = c.ddw-ddw.result }) c.in_ok-kernel.ensures, c.tests-tests.ensures, c.bad_energy.ensures, c.zero_divisor.ensures)
    (rw (c.is_finite-2.ensures, c.is_finite.ensures, c.ddw-ddw.ensures, c.dw-dw.ensures, c.w-w.ensures, c.state_of-s.ensures, c.lame-lame.ensures, c.from-p1.ensures, c.from-p0.ensures))
