-- Tests of a panel's or a skin's lists: their lengths (01-scope 2.3, 2.5), and the names of its triangles (01-scope 2.1: 2).
use Rattle.std.specs.Prelude.{Bool, not, ◌&&◌, List, ℕ, ◌*◌, ◌/◌, ◌%◌, leb, ltb, eqb}
use Rattle.float.specs.Lists.{every}

abbrev pub max_vertices : ℕ
max_vertices = 65_536

abbrev pub max_triangles : ℕ
max_triangles = 131_072

-- so many vertices, and so many names, three for each triangle
unfoldable pub within_limits : (vertices names : ℕ) → Bool
within_limits vertices names = leb vertices max_vertices && eqb (names % 3) 0 && leb (names / 3) max_triangles

-- a limit is passed, or a list has not three places for each vertex
unfoldable pub bad_length_of : (vertices names places : ℕ) → Bool
bad_length_of vertices names places = not (within_limits vertices names && eqb places (vertices * 3))

-- each name is that of one of `count` vertices
abbrev pub names_below : (count : ℕ) (names : List ℕ) → Bool
names_below count names = every (λ name. ltb name count) names
