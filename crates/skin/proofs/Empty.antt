-- A list without triangles is accepted where the lengths are right, whatever the kernel is, and gives +0: nothing is looked at, and a sum of nothing is finite.
use mathlib.Core.Path.{◌≡◌, refl}
use mathlib.Core.Bool.{true, false}
use mathlib.Core.List.{List, []}
use Prim.Native.Nat.{ℕ}
use lib.Ieee.{Float, Format}
use lib.Ieee.Scale.{finite}
use lib.ListN.{length}
use Rattle.float.specs.Lists.{cleared, every, fold_threes, map_threes}
use Rattle.float.specs.Ops.{ops}
use Rattle.float.proofs.Bits.{zero_is}
use Rattle.float.proofs.Scan.{every_same}
use Rattle.refusal.specs.Refusal.{accepted}
use Rattle.skin.specs.Sums.{Kernel, energy_of, gradient_of}
use Rattle.skin.specs.declared.SkinGiven.{SkinGiven}
use Rattle.skin.specs.Skin.{bad_length_of, bad_sum_of, IsSkinOver}
use Rattle.skin.proofs.SkinAnswer.{numbers_exactly, accepted_sums}

zero_finite : (f : Format) → finite (ops f).zero ≡ true
zero_finite f = rw (zero_is f)

module _ (f : Format) (answer : Kernel) (ini def : ℕ) (before : List Float) {r : SkinGiven} {after : List Float} (is : IsSkinOver f answer ini def [] before r after) where
  sums_finite : bad_sum_of (energy_of f answer []) (gradient_of f answer [] (length before)) ≡ false
  unfolding bad_sum_of energy_of gradient_of fold_threes
  sums_finite = rw (zero_finite f, every_same finite (length before) (ops f).zero (zero_finite f))

  -- THE theorem of the empty list
  pub empty_accepted : bad_length_of ini def 0 (length before) ≡ false → (r.number ≡ accepted) × (r.w ≡ (ops f).zero) × (after ≡ cleared f before)
  unfolding map_threes every energy_of gradient_of fold_threes
  empty_accepted lengths =
      let e = (numbers_exactly f answer ini def [] before is).accepted_exactly.1 ((lengths, (refl, tt)), (λ j. refl), (sums_finite, tt)) in
      let sums = accepted_sums f answer ini def [] before is e in
      (e, sums.0, sums.1)
