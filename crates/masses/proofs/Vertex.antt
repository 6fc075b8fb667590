-- How many places the finished masses have, and what each holds, where lengths and names are right and whether or not the sums are finite: instances of what adding triangles leaves.
use mathlib.Core.Path.{◌≡◌}
use mathlib.Core.Bool.{true}
use mathlib.Core.List.{List}
use Prim.Native.Nat.{ℕ, ◌+◌, ◌*◌, ◌<◌}
use lib.Ieee.{Float, Format}
use lib.ListN.{length}
use Rattle.float.specs.Lists.{◌!◌, total}
use Rattle.refusal.specs.Panel.{names_below}
use Rattle.places.specs.Plane.{vertices_of, corners_at}
use Rattle.places.proofs.Vertex.{added_sized, added_holds}
use Rattle.masses.specs.Masses.{mass_of, add_masses, add_all, masses_of}
use Rattle.masses.specs.Vertex.{triangles_of, share_of}

module _ (f : Format) (tri2vtx : List ℕ) (vtx2xy : List Float) (thick rho : Float) (before : List Float) (size : length before ≡ vertices_of vtx2xy * 3)
    (names : names_below (vertices_of vtx2xy) tri2vtx ≡ true) where
  pub masses_sized : length (masses_of f tri2vtx vtx2xy thick rho before) ≡ vertices_of vtx2xy * 3
  unfolding masses_of add_all add_masses
  masses_sized = added_sized f (λ c. corners_at vtx2xy) (mass_of f thick rho) before tri2vtx (vertices_of vtx2xy) size names

  -- at place k of vertex v
  pub masses_hold : (v k : ℕ) → v < vertices_of vtx2xy → k < 3
      → masses_of f tri2vtx vtx2xy thick rho before ! (v * 3 + k) ≡ total f (share_of f k thick rho) (triangles_of v tri2vtx vtx2xy)
  unfolding masses_of add_all add_masses
  masses_hold = added_holds f (λ c. corners_at vtx2xy) (mass_of f thick rho) before tri2vtx (vertices_of vtx2xy) size names
