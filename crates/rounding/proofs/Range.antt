-- What the test of a factor says, both ways.
use mathlib.Core.Path.{◌≡◌}
use mathlib.Core.Bool.{true, not, ◌&&◌}
use mathlib.Core.Logic.{◌↔◌}
use Prim.Native.Nat.{ℕ, ◌*◌}
use lib.Dec.{leb}
use lib.Ieee.{Float, Format}
use borrow.Author.Tests.{leb-true, le-leb, not-true}
use Rattle.float.proofs.Scan.{both}
use Rattle.rounding.specs.Exact.{mag, sign}
use Rattle.rounding.specs.Whole.{unit, is_number}
use Rattle.rounding.specs.Range.{between}
use Rattle.rounding.proofs.Margin.{Between}
use Rattle.rounding.proofs.Whole.{number_iff}

pub between_iff : (f : Format) (R : ℕ) (x : Float) → between f R x ≡ true ↔ Between f R x
unfolding between
between_iff f R x = (
  (λ e.
      let t = both (is_number f x && not (sign x) && leb (unit f) (R * mag f x)) _ e in
      let l = both (is_number f x && not (sign x)) _ t.0 in
      let n = both (is_number f x) _ l.0 in
      record { number = (number_iff f x).0 n.0; above = not-true _ n.1; least = leb-true _ _ l.1; most = leb-true _ _ t.1 }),
  λ b. rw ((number_iff f x).1 b.number, b.above, le-leb _ _ b.least, le-leb _ _ b.most),
)
