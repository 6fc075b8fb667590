-- No second answer fits the statement of this crate: one number is one count of units at most.
use mathlib.Core.Path.{◌≡◌, refl, ap}
use Prim.Native.Nat.{ℕ, ◌*◌}
use native.Mathlib.Omega.{arith}
use lib.Ieee.{binary64, of_bits}
use Rattle.std.specs.Prelude.{Option, Some, None}
use Rattle.float.proofs.Value.{fractions_agree}
use Rattle.units.specs.Units.{InUnits, IsScaled}

count : (b n m : ℕ) → InUnits b n → InUnits b m → n ≡ m
count b n m is it = let same : n * 1024 ≡ m * 1024 = fractions_agree (of_bits binary64 b) _ n 1024 m 1024 is it in omega (arith, same)

pub scaled : (b : ℕ) {r q : Option ℕ} → IsScaled b r → IsScaled b q → r ≡ q
scaled b {r = Some n} {q = Some m} h k = ap Some (count b n m h.some.0 k.some.0)
scaled b {r = Some n} {q = None} h k = absurd (k.none refl n h.some.1 h.some.0)
scaled b {r = None} {q = Some m} h k = absurd (h.none refl m k.some.1 k.some.0)
scaled b {r = None} {q = None} h k = refl
