-- The family of sheets of 01-scope 6.5, by plain tests of their numbers.
use Rattle.std.specs.Prelude.{◌≡◌, Bool, true, ◌&&◌, ℕ, ◌^◌, ◌≤◌}
use Rattle.std.specs.Float.{Format}
use Rattle.rounding.specs.Whole.{is_whole_up_to, is_natural}
use Rattle.del_geo_core.specs.Tri2.{Tri2}
use Rattle.del_geo_core.specs.declared.tri2.V2.{V2}
use Rattle.del_geo_core.specs.Tri3.{Tri3}
use Rattle.vec3.specs.declared.V3.{V3}

-- a and b are 1 doubled so often at most: 1, 2, 4, .., 1,024
abbrev pub most_doublings : ℕ
most_doublings = 10

-- either side of zero
abbrev pub largest_coordinate : ℕ
largest_coordinate = 1024

module _ (f : Format) where
  -- the plane point (m, n)
  abbrev pub is_at : (m n : ℕ) → V2 → Bool
  is_at m n p = is_natural f m p.x && is_natural f n p.y

  -- at rest on (0, 0), (a, 0) and (0, b)
  abbrev pub is_rest : (a b : ℕ) → Tri2 → Bool
  is_rest a b ini = is_at 0 0 ini.p0 && is_at a 0 ini.p1 && is_at 0 b ini.p2

  -- a point in space with whole coordinates, B at most either side of zero
  abbrev pub is_whole_point : (B : ℕ) → V3 → Bool
  is_whole_point B p = is_whole_up_to f B p.x && is_whole_up_to f B p.y && is_whole_up_to f B p.z

  -- the three deformed corners are such points
  abbrev pub is_whole : (B : ℕ) → Tri3 → Bool
  is_whole B def = is_whole_point B def.p0 && is_whole_point B def.p1 && is_whole_point B def.p2

  -- THE family: at rest on (0, 0), (2 ^ i, 0) and (0, 2 ^ j), with whole coordinates when deformed
  pub record InFamily (i j : ℕ) (ini : Tri2) (def : Tri3) : Type 0 where
    pub side_x : i ≤ most_doublings
    pub side_y : j ≤ most_doublings
    pub rest : is_rest (2 ^ i) (2 ^ j) ini ≡ true
    pub deformed : is_whole largest_coordinate def ≡ true
