-- Where the derivatives stand: number i of corner c is the entry 3 c + i of nine.
use mathlib.Core.Path.{◌≡◌, refl}
use mathlib.Core.Bool.{true}
use Prim.Native.Nat.{ℕ, zero, suc, ◌+◌, ◌*◌, ◌<◌}
use native.Mathlib.Omega.{arith}
use lib.Ieee.Scale.{finite}
use Rattle.float.specs.Lists.{◌!◌, every, all_finite}
use Rattle.del_geo_core.specs.Tri3.{Tri3}
use Rattle.places.specs.Places.{component as coordinate}
use Rattle.vec3.specs.declared.V3.{V3}
use Rattle.strain.specs.Strain.{flat, dw_of}

abbrev pub corner : (c : ℕ) → Tri3 → V3
corner zero t = t.p0
corner (suc zero) t = t.p1
corner (suc (suc c)) t = t.p2

pub all_finite_lem : (t : Tri3) → ((c i : ℕ) → finite (coordinate i (corner c t)) ≡ true) → all_finite (flat t) ≡ true
unfolding every
all_finite_lem t h = rw (h 0 0, h 0 1, h 0 2, h 1 0, h 1 1, h 1 2, h 2 0, h 2 1, h 2 2)

module _ (xx yy xy : Tri3) where
  pub places : (c i : ℕ) → c < 3 → i < 3
      → (dw_of xx yy xy ! (3 * c + i) ≡ coordinate i (corner c xx)) × (dw_of xx yy xy ! (9 + 3 * c + i) ≡ coordinate i (corner c yy))
      × (dw_of xx yy xy ! (18 + 3 * c + i) ≡ coordinate i (corner c xy))
  unfolding dw_of
  places zero zero h k = (refl, refl, refl)
  places zero (suc zero) h k = (refl, refl, refl)
  places zero (suc (suc zero)) h k = (refl, refl, refl)
  places zero (suc (suc (suc i))) h k = absurd (omega arith)
  places (suc zero) zero h k = (refl, refl, refl)
  places (suc zero) (suc zero) h k = (refl, refl, refl)
  places (suc zero) (suc (suc zero)) h k = (refl, refl, refl)
  places (suc zero) (suc (suc (suc i))) h k = absurd (omega arith)
  places (suc (suc zero)) zero h k = (refl, refl, refl)
  places (suc (suc zero)) (suc zero) h k = (refl, refl, refl)
  places (suc (suc zero)) (suc (suc zero)) h k = (refl, refl, refl)
  places (suc (suc zero)) (suc (suc (suc i))) h k = absurd (omega arith)
  places (suc (suc (suc c))) i h k = absurd (omega arith)
