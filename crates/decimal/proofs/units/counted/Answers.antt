-- `counted` meets its contract: the comparison decides what is too large, and for the rest the fields of y say what `nearest` is to round.
use Rattle.std.proofs.Common.{◌≡◌, ℕ, ◌-◌, ◌^◌, ◌≤◌, Bool, true, false, pos, arith, lit<}
use native.Mathlib.Nat.{pow-le-pow_right}
use lib.Ieee.{Float, binary64, le, fits, of_int, to_bits, to_unsigned}
use Rattle.decimal.specs.Units.{tiny}
use Rattle.decimal.proofs.Values.{ten_cast}
use Rattle.decimal.proofs.Amounts.{Ready, when_large, when_counted}
use Rattle.decimal.proofs.units.counted.Goals as goal

ready : {p : ℕ} (P : p ≤ 9) (negative : Bool) {y limit : Float} {w : ℕ} → fits binary64 y ≡ true → le tiny y ≡ true → limit ≡ of_int binary64 (pos (10 ^ (18 - p))) → le limit y ≡ false
    → w ≡ to_bits binary64 y → Ready p P negative y w
ready {p} P negative {y} f low is h e = when_counted p P negative y (rw f tt) low (rw is at h) e

as_ten : {p : ℕ} {ten : Float} → p ≤ 9 → ten ≡ of_int binary64 (pos (10 ^ p)) → to_unsigned 64 ten ≡ 10 ^ p
as_ten {p} h e = rw e (ten_cast p h).1

pub returns-then-ten-y : goal.returns-then-ten-y
returns-then-ten-y c = when_large _ c.requires.0 c.args.negative c.args.y c.requires.1 (rw c.ten.ensures at c.if-ten-y.true)

pub overflow_sub-j : goal.overflow_sub-j
overflow_sub-j c = omega (arith, (ready c.requires.0 c.args.negative c.well_formed.0.1 c.requires.1 c.ten.ensures c.if-ten-y.false c.to_word-w.ensures).most)

pub float_to_int-ten : goal.float_to_int-ten
float_to_int-ten c = rw c.ten-2.ensures (ten_cast _ c.requires.0).0

pub nearest-n-requires : goal.nearest-n-requires
nearest-n-requires c =
    let r = ready c.requires.0 c.args.negative c.well_formed.0.1 c.requires.1 c.ten.ensures c.if-ten-y.false c.to_word-w.ensures in let t = as_ten c.requires.0 c.ten-2.ensures in
    (omega arith, rw t (pow-le-pow_right (lit< tt) {j = 9} c.requires.0), omega (arith, r.most), omega (arith, r.from), rw t r.fits)

pub returns : goal.returns
returns c =
    (ready c.requires.0 c.args.negative c.well_formed.0.1 c.requires.1 c.ten.ensures c.if-ten-y.false c.to_word-w.ensures).right _
    (rw (as_ten c.requires.0 c.ten-2.ensures) at c.nearest-n.ensures)
