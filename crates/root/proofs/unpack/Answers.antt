-- A field of 0 is a subnormal's, any other a normal number's, whose digits m has without the first.
use Rattle.std.proofs.Common.{◌≡◌, ◌+◌, ◌*◌, ◌%◌, ◌^◌, arith}
use lib.Dec.{lit≤}
use Rattle.std.specs.Float.{binary64}
use Rattle.whole_root.specs.Whole.{significand}
use Rattle.root.proofs.Fields.{unpack_normal}
use Rattle.root.proofs.unpack.Goals as goal

pub returns : goal.returns
returns c =
    let b = c.args.b in
    let digits : significand (b * 2 ^ 11 % 2 ^ 64) ≡ b % 2 ^ 52 + 2 ^ 52 = omega arith in
    rw digits (unpack_normal binary64 1022 b (lit≤ tt) c.if-e-eq0.false c.requires.1)
