-- No second answer fits a statement of this crate: each is an equation with a definition.
use mathlib.Core.Path.{◌≡◌}
use mathlib.Core.Bool.{Bool}
use mathlib.Core.List.{List}
use lib.Ieee.{Float}
use Rattle.float.proofs.Unique.{only}
use Rattle.del_geo_core.specs.declared.tri2.V2.{V2}
use Rattle.del_geo_core.specs.Tri2.{Tri2}
use Rattle.del_geo_core.specs.Tri3.{Tri3}
use Rattle.vec3.specs.declared.V3.{V3}
use Rattle.corners.specs.Plane as plane
use Rattle.corners.specs.Space as space

pub plane_point : (a : List Float) {r q : V2} → r ≡ plane.point_of a → q ≡ plane.point_of a → r ≡ q
plane_point a = only

pub plane_corners : (p : List (List Float)) {r q : Tri2} → r ≡ plane.corners_of p → q ≡ plane.corners_of p → r ≡ q
plane_corners p = only

pub plane_point_finite : (a : V2) {r q : Bool} → r ≡ plane.point_finite a → q ≡ plane.point_finite a → r ≡ q
plane_point_finite a = only

pub plane_is_finite : (p : Tri2) {r q : Bool} → r ≡ plane.is_finite_of p → q ≡ plane.is_finite_of p → r ≡ q
plane_is_finite p = only

pub space_point : (a : List Float) {r q : V3} → r ≡ space.point_of a → q ≡ space.point_of a → r ≡ q
space_point a = only

pub space_corners : (p : List (List Float)) {r q : Tri3} → r ≡ space.corners_of p → q ≡ space.corners_of p → r ≡ q
space_corners p = only

pub space_point_finite : (a : V3) {r q : Bool} → r ≡ space.point_finite a → q ≡ space.point_finite a → r ≡ q
space_point_finite a = only

pub space_is_finite : (p : Tri3) {r q : Bool} → r ≡ space.is_finite_of p → q ≡ space.is_finite_of p → r ≡ q
space_is_finite p = only
