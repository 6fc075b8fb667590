-- The masses of a panel as numbers (01-scope 5.3): what a triangle gives each of its vertices, and all of it added in the list's order.
use Rattle.std.specs.Prelude.{List, ℕ, Float}
use Rattle.std.specs.Float.{Format}
use Rattle.float.specs.Lists.{cleared, fold_threes}
use Rattle.float.specs.Ops.{ops}
use Rattle.del_geo_core.specs.Tri2.{area_of}
use Rattle.del_geo_core.specs.Tri2.{Tri2}
use Rattle.vec3.specs.declared.V3.{V3}
use Rattle.places.specs.Places.{add_triangle}
use Rattle.places.specs.Plane.{corners_at}

module _ (f : Format) where
  open ops f use {◌⊗◌, ◌⊘◌, three, twelve}

  infixl 80 ◌⊗◌ ◌⊘◌
  -- THE statement of `mass`: for the translation, and twice for the rotations
  unfoldable pub mass_of : (thick rho : Float) → Tri2 → V3
  mass_of thick rho p =
      let a012 = area_of f p.p0 p.p1 p.p2 in
      let m0 = a012 ⊘ three ⊗ rho ⊗ thick in
      let m1 = a012 ⊘ three ⊗ rho ⊗ thick ⊗ thick ⊗ thick ⊘ twelve in
      record { x = m0; y = m1; z = m1 }

  -- one triangle's masses, to each of its names
  unfoldable pub add_masses : (vtx2xy : List Float) (thick rho : Float) (vtx2mass : List Float) (i0 i1 i2 : ℕ) → List Float
  add_masses vtx2xy thick rho vtx2mass i0 i1 i2 = let m = mass_of thick rho (corners_at vtx2xy i0 i1 i2) in add_triangle f vtx2mass i0 i1 i2 m m m

  -- the triangles in the list's order
  unfoldable pub add_all : (tri2vtx : List ℕ) (vtx2xy : List Float) (thick rho : Float) (vtx2mass : List Float) → List Float
  add_all tri2vtx vtx2xy thick rho vtx2mass = fold_threes (add_masses vtx2xy thick rho) vtx2mass tri2vtx

  -- the masses, from +0
  unfoldable pub masses_of : (tri2vtx : List ℕ) (vtx2xy : List Float) (thick rho : Float) (vtx2mass : List Float) → List Float
  masses_of tri2vtx vtx2xy thick rho vtx2mass = add_all tri2vtx vtx2xy thick rho (cleared f vtx2mass)
