-- The lists that a file's blocks stand for: three names for each triangle, and x and y of each point. Below them, what `names` and `look` answer.
use Rattle.std.specs.Prelude.{List, [], ◌∷◌, ℕ, ◌/◌, Float, length}
use Rattle.std.specs.Float.{binary64}
use Rattle.float.specs.Lists.{each, table}
use Rattle.refusal.specs.Panel.{names_below}
use Rattle.places.specs.Plane.{vertices_of, named_finite}
use Rattle.mitc_tri3.specs.Masses.{none_turned}
use Rattle.mesh.specs.Blocks.{name_of, coordinate_of}
use Rattle.mesh_masses.specs.declared.Seen.{Seen}

unfoldable pub names_in : (cells : List ℕ) → List ℕ
names_in cells = each (length cells / 16) (λ t. table 3 (name_of cells t))

unfoldable pub xy_in : (points : List ℕ) → List Float
xy_in points = each (length points / 24) (λ i. table 2 (coordinate_of points i))

abbrev pub triangle_of : (cells : List ℕ) (t : ℕ) → List ℕ
triangle_of cells t = name_of cells t 0 ∷ name_of cells t 1 ∷ name_of cells t 2 ∷ []

-- the tests of the ladder that look at every triangle
abbrev pub seen_of : (tri2vtx : List ℕ) (vtx2xy : List Float) → Seen
seen_of tri2vtx vtx2xy = record { named = names_below (vertices_of vtx2xy) tri2vtx; finite = named_finite tri2vtx vtx2xy; unturned = none_turned binary64 tri2vtx vtx2xy }
