-- The Green-Lagrange strain as books have it (01-scope 6.5): of a sheet at rest on (0, 0), (a, 0) and (0, b), from its deformed corners, with its derivatives by them, in exact fractions.
use Rattle.stvk_tri3.specs.Strain.{StrainGiven}
use Rattle.std.specs.Prelude.{◌≡◌, ℕ, zero, suc, ◌+◌, ◌*◌, ◌<◌}
use Rattle.std.specs.Float.{Format}
use Rattle.float.specs.Lists.{◌!◌}
use Rattle.refusal.specs.Refusal.{accepted}
use Rattle.del_geo_core.specs.Tri3.{Tri3}
use Rattle.vec3.specs.declared.V3.{V3}
use Rattle.green_lagrange.specs.Fraction.{Fraction, Is, ◌∕◌, ◌∔◌, ◌∸◌, ◌⋅◌, ◌÷◌, exact}

-- three numbers, for x, y, z in space
pub record Vector : Type 0 where
  pub x : Fraction
  pub y : Fraction
  pub z : Fraction

abbrev pub dot : Vector → Vector → Fraction
dot u v = u.x ⋅ v.x ∔ u.y ⋅ v.y ∔ u.z ⋅ v.z

-- number i: x, y, z for 0, 1, 2
abbrev pub component : (i : ℕ) → Vector → Fraction
component zero v = v.x
component (suc zero) v = v.y
component (suc (suc i)) v = v.z

-- the deformation gradient F = dx/dX, by its two columns, for X and Y in the sheet
pub record DeformationGradient : Type 0 where
  pub X : Vector
  pub Y : Vector

-- the entries of a symmetric matrix in the sheet's own axes; those of a strain with XY doubled, as engineers write it
pub record Symmetric : Type 0 where
  pub XX : Fraction
  pub YY : Fraction
  pub XY : Fraction

abbrev pub identity : Symmetric
identity = record { XX = 1 ∕ 1; YY = 1 ∕ 1; XY = 0 ∕ 1 }

-- F^T F, the right Cauchy-Green tensor
abbrev pub right_cauchy_green : DeformationGradient → Symmetric
right_cauchy_green F = record { XX = dot F.X F.X; YY = dot F.Y F.Y; XY = dot F.X F.Y }

-- half of (F^T F - I), with the off-diagonal doubled
abbrev pub green_lagrange : DeformationGradient → Symmetric
green_lagrange F = let C = right_cauchy_green F in let I = identity in record {
  XX = (1 ∕ 2) ⋅ (C.XX ∸ I.XX);
  YY = (1 ∕ 2) ⋅ (C.YY ∸ I.YY);
  XY = (2 ∕ 1) ⋅ ((1 ∕ 2) ⋅ (C.XY ∸ I.XY));
}

-- how fast a number changes along X and along Y
pub record Slopes : Type 0 where
  pub X : Fraction
  pub Y : Fraction

-- of the shape function N of corner c, which is 1 at that corner and 0 at the others: 1 - X/a - Y/b, X/a and Y/b
abbrev pub shape_slopes : (a b c : ℕ) → Slopes
shape_slopes a b zero = record { X = (0 ∕ 1) ∸ (1 ∕ a); Y = (0 ∕ 1) ∸ (1 ∕ b) }
shape_slopes a b (suc zero) = record { X = 1 ∕ a; Y = 0 ∕ 1 }
shape_slopes a b (suc (suc c)) = record { X = 0 ∕ 1; Y = 1 ∕ b }

-- of that strain, by coordinate i of a corner with the slopes N: row i of F moves by N, and in each product of two entries one moves at a time
abbrev pub derivative : DeformationGradient → (N : Slopes) (i : ℕ) → Symmetric
derivative F N i = let u = component i F.X in let v = component i F.Y in record {
  XX = u ⋅ N.X;
  YY = v ⋅ N.Y;
  XY = u ⋅ N.Y ∔ N.X ⋅ v;
}

module _ (f : Format) where
  -- the deformed edge from p to q, over its length at rest
  abbrev pub column : (p q : V3) (length : ℕ) → Vector
  column p q length = record {
    x = (exact f q.x ∸ exact f p.x) ÷ length;
    y = (exact f q.y ∸ exact f p.y) ÷ length;
    z = (exact f q.z ∸ exact f p.z) ÷ length;
  }

  -- from corner 0 to corner 1 the sheet goes a along X, from corner 0 to corner 2 it goes b along Y
  abbrev pub gradient : (a b : ℕ) (def : Tri3) → DeformationGradient
  gradient a b def = record { X = column def.p0 def.p1 a; Y = column def.p0 def.p2 b }

  -- of ANY answer r: accepted, its three values are that strain, and its 27 derivatives are that strain's, by coordinate i of corner c
  pub record IsBookStrain (a b : ℕ) (def : Tri3) (r : StrainGiven) : Type 0 where
    pub accepts : r.number ≡ accepted
    pub xx : Is f (r.w ! 0) (green_lagrange (gradient a b def)).XX
    pub yy : Is f (r.w ! 1) (green_lagrange (gradient a b def)).YY
    pub xy : Is f (r.w ! 2) (green_lagrange (gradient a b def)).XY
    pub dxx : (c i : ℕ) → c < 3 → i < 3 → Is f (r.dw ! (3 * c + i)) (derivative (gradient a b def) (shape_slopes a b c) i).XX
    pub dyy : (c i : ℕ) → c < 3 → i < 3 → Is f (r.dw ! (9 + 3 * c + i)) (derivative (gradient a b def) (shape_slopes a b c) i).YY
    pub dxy : (c i : ℕ) → c < 3 → i < 3 → Is f (r.dw ! (18 + 3 * c + i)) (derivative (gradient a b def) (shape_slopes a b c) i).XY
