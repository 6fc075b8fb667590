-- Right is one case of three, and that of an area below zero: no number is on both sides of zero, so what is asked first does not count.
use mathlib.Core.Path.{◌≡◌, refl}
use mathlib.Core.Bool.{Bool, true, false, cond, false≢true}
use mathlib.Core.Logic.{◌↔◌}
use Prim.Native.Nat.{◌*◌}
use native.Mathlib.Omega.{arith}
use lib.IntN.{pos}
use lib.Ieee.{Float, nan, inf, fin, Format, up, down, lt}
use borrow.Author.Tests.{le-ltb}
use Rattle.float.specs.Ops.{ops}
use Rattle.float.proofs.Bits.{zero_is}
use Rattle.del_geo_core.specs.Tri2.{is_right_of, turn_of}
use Rattle.del_geo_core.specs.declared.tri2.Turn.{Turn}
use Rattle.del_geo_core.specs.declared.tri2.Turn.TheVariants.{Left, Right, Flat}

pub is_right_exactly : (turn : Turn) → is_right_of turn ≡ true ↔ turn ≡ Right
unfolding is_right_of
is_right_exactly turn = (there turn, λ e. rw e)
  where
    there : (turn : Turn) → is_right_of turn ≡ true → turn ≡ Right
    there Left e = absurd (false≢true e)
    there Right e = refl
    there Flat e = absurd (false≢true e)

one_side : (a : Float) → lt (fin false 0 (pos 0)) a ≡ true → lt a (fin false 0 (pos 0)) ≡ false
unfolding lt
one_side nan e = refl
one_side (inf true) e = absurd (false≢true e)
one_side (inf false) e = refl
one_side (fin true m e) h = absurd (false≢true h)
one_side (fin false m e) h = le-ltb (m * up e * down (pos 0)) (0 * up (pos 0) * down e) (omega arith)

module _ (f : Format) where
  open ops f use {zero}

  pub right_below : (area : Float) → is_right_of (turn_of f area) ≡ lt area zero
  unfolding is_right_of turn_of
  right_below area = rw (zero_is f) (split (lt (fin false 0 (pos 0)) area) (lt area (fin false 0 (pos 0))) (one_side area))
    where
      split : (above below : Bool) → (above ≡ true → below ≡ false) → is_right_of (cond above Left (cond below Right Flat)) ≡ below
      split true below e = rw (e refl)
      split false true e = refl
      split false false e = refl
