-- M is a * 2 ^ 52: `nearest_root` gives the whole number nearest to M's root, and x is M times the square of the answer's scale.
use mathlib.Core.Bool.{false}
use Prim.Native.Nat.{ℕ, ◌*◌, ◌/◌, ◌^◌, ◌≤◌, ◌<◌}
use native.Mathlib.Omega.{arith}
use lib.Dec.{T}
use lib.Ieee.{Float, binary64, of_bits, fits}
use lib.Ieee.Exact.{HasValue}
use Rattle.whole_root.specs.Whole.{Close, significand, evened_of}
use Rattle.whole_root.proofs.Whole.{evened_range}
use Rattle.root.specs.Root.{Nearest}
use Rattle.root.specs.Steps.{Unpacked}
use Rattle.root.proofs.Rule.{Rounded, in_range_lem, found}
use Rattle.root.proofs.Fields.{squared}
use Rattle.root.proofs.positive.Goals as goal

module _ (m : ℕ) {b u n : ℕ} (U : Unpacked binary64 1022 b (significand m) u) (C : Close (evened_of m u * 2 ^ 52) n) where
  rounded : Rounded binary64 (evened_of m u * 2 ^ 52) n
  rounded = let i = evened_range m u in record { from = omega arith; room = omega arith; close = C }

  packs : (2 ^ 52 ≤ n) × (n < 2 ^ 53) × (u / 2 ≤ 1533)
  packs = let h = in_range_lem binary64 _ n rounded in (h.0, h.1, omega (arith, U.most))

  roots : (y : Float) → HasValue y false (n * 2 ^ (u / 2)) (2 ^ 1074) → T (fits binary64 y) → Nearest binary64 (of_bits binary64 b) y
  roots y v t = let x = of_bits binary64 b in found binary64 _ n rounded (u / 2) 1074 x y (squared x (significand m) u 2096 52 U.value) v t

pub pack-requires : goal.pack-requires
pack-requires c = packs _ c.unpack-p.ensures c.nearest_root.ensures

pub returns : goal.returns
returns c = roots _ c.unpack-p.ensures c.nearest_root.ensures _ c.pack.ensures (rw c.pack.type_inv tt)
