-- `w_dw_ddw_plate_bending` meets its contract: its tests are the definition's, and where none of them holds the numbers are given.
use Rattle.std.proofs.lemmas.Result.{err_from_is_err_and}
use Rattle.std.specs.Float.{binary64}
use Rattle.refusal.proofs.EnergyGiven.{refused, taken}
use Rattle.plate.specs.Plate.{state_of, w_dw_ddw_plate_bending_of}
use Rattle.mitc_tri3.specs.Plate.{tests_of, plate_of}
use Rattle.mitc_tri3.proofs.w_dw_ddw_plate_bending.Goals as goal

pub returns-in_err-kernel : goal.returns-in_err-kernel
unfolding state_of w_dw_ddw_plate_bending_of tests_of plate_of
returns-in_err-kernel c =
    let p = err_from_is_err_and c.from_residual.result c.from_residual.ensures.1 in
    let r = refused binary64 c.in_err-kernel.field-0.0 c.w-w.result c.dw-dw.result c.ddw-ddw.result c.in_err-kernel.ensures in
    rw (p.1, p.2, r, c.tests-tests.ensures, c.bad_energy.ensures, c.zero_divisor.ensures, c.turns_right.ensures, c.is_finite-3.ensures, c.is_finite-2.ensures, c.is_finite.ensures)
    (rw (c.ddw-ddw.ensures, c.dw-dw.ensures, c.w-w.ensures, c.state_of-s.ensures, c.lame-lame.ensures, c.from-u.ensures, c.from-p.ensures))

pub returns : goal.returns
unfolding state_of w_dw_ddw_plate_bending_of tests_of plate_of
returns c =
    rw (taken binary64 (record { w = c.w-w.result; dw = c.dw-dw.result; ddw = c.ddw-ddw.result }) c.in_ok-kernel.ensures, c.tests-tests.ensures, c.bad_energy.ensures, c.zero_divisor.ensures)
    (rw (c.turns_right.ensures, c.is_finite-3.ensures, c.is_finite-2.ensures, c.is_finite.ensures, c.ddw-ddw.ensures, c.dw-dw.ensures, c.w-w.ensures, c.state_of-s.ensures, c.lame-lame.ensures)
    (rw (c.from-u.ensures, c.from-p.ensures)))
