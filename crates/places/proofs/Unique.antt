-- No second answer fits the statement of `add_triangle`: it is an equation with a definition.
use mathlib.Core.Path.{◌≡◌}
use mathlib.Core.List.{List}
use Prim.Native.Nat.{ℕ}
use lib.Ieee.{Float, Format}
use Rattle.float.proofs.Unique.{only}
use Rattle.vec3.specs.declared.V3.{V3}
use Rattle.places.specs.Places.{added_of}

pub add_triangle_lem : (f : Format) (values : List Float) (i0 i1 i2 : ℕ) (x0 x1 x2 : V3) {r q : List Float} → r ≡ added_of f values i0 i1 i2 x0 x1 x2
    → q ≡ added_of f values i0 i1 i2 x0 x1 x2 → r ≡ q
add_triangle_lem f values i0 i1 i2 x0 x1 x2 = only
