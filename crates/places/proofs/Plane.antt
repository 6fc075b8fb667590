-- Where every coordinate is finite, those of the named vertices are: each stands before a left-over last number.
use mathlib.Core.Path.{◌≡◌}
use mathlib.Core.Bool.{true}
use mathlib.Core.List.{List}
use Prim.Native.Nat.{ℕ, ◌+◌, ◌*◌, ◌<◌}
use native.Mathlib.Omega.{arith}
use lib.Ieee.{Float, nan}
use lib.Ieee.Scale.{finite}
use lib.ListN.{length, get_or, take}
use lib.Seq.{length-take-le, get_or-take}
use Rattle.float.specs.Lists.{◌!◌, all_finite}
use Rattle.float.proofs.Scan.{every_at, every_iff}
use Rattle.refusal.specs.Panel.{names_below}
use Rattle.refusal.proofs.Panel.{named}
use Rattle.corners.specs.Plane.{point_finite}
use Rattle.places.specs.Plane.{vertices_of, point_at, named_finite}

-- the coordinates without a left-over last number
abbrev pub pairs : List Float → List Float
pairs vtx2xy = take (vertices_of vtx2xy * 2) vtx2xy

pub named_finite_lem : (names : List ℕ) (vtx2xy : List Float) → names_below (vertices_of vtx2xy) names ≡ true → all_finite (pairs vtx2xy) ≡ true → named_finite names vtx2xy ≡ true
unfolding named_finite
named_finite_lem names vtx2xy below all = (every_iff _ names 0).1 each
  where
    at : (i : ℕ) → i < vertices_of vtx2xy * 2 → finite (vtx2xy ! i) ≡ true
    at i h =
        let l = length-take-le (vertices_of vtx2xy * 2) vtx2xy (omega arith) in
        rw (get_or-take _ vtx2xy i nan h) at (every_at finite (pairs vtx2xy) i nan all (omega arith))

    each : (k : ℕ) → k < length names → point_finite (point_at vtx2xy (get_or names k 0)) ≡ true
    each k h =
        let l = named _ names below k h in
        rw (at (get_or names k 0 * 2) (omega arith), at (get_or names k 0 * 2 + 1) (omega arith))
