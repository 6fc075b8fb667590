-- The factors of the strains along the edges: 1 / a^2 along x, 1 / b^2 along y and 1 / (a b) at the third place; all else is nothing.
use mathlib.Core.Path.{◌≡◌}
use mathlib.Core.Bool.{true}
use Prim.Native.Nat.{ℕ, ◌+◌, ◌-◌, ◌*◌, ◌^◌, ◌≤◌, ◌<◌}
use native.Mathlib.Omega.{arith}
use lib.Dec.{lit≤}
use lib.Ieee.{Float, Format, low}
use Rattle.float.specs.Ops.{ops}
use Rattle.rounding.specs.Exact.{Num, ◌⊠◌}
use Rattle.rounding.specs.Dyadic.{Dyad}
use Rattle.rounding.proofs.Dyadic.{dyad_add, dyad_mul}
use Rattle.rounding.proofs.Whole.{two_dyad}
use Rattle.del_geo_core.specs.Tri2.{Tri2}
use Rattle.strain.specs.Strain.{rest_of_green_lagrange, gugu0_of}
use Rattle.strain.specs.declared.GuGu.{GuGu}
use Rattle.green_lagrange.specs.Sheet.{is_rest}
use Rattle.green_lagrange.proofs.Powers.{tiny, nothing}
use Rattle.green_lagrange.proofs.Rest.{Small, room, gu0_x, gu0_y}
use Rattle.green_lagrange.proofs.Vector.{e_x, e_y, e_z, Dyads}

-- of a rest triangle
abbrev pub gugu0 : Format → Tri2 → GuGu
gugu0 f ini = gugu0_of f (rest_of_green_lagrange f ini).gu0

module _ (f : Format) (i j : ℕ) (s : Small f i j) (ini : Tri2) (rest : is_rest f (2 ^ i) (2 ^ j) ini ≡ true) where
  open ops f use {◌⊗◌}

  infixl 80 ◌⊗◌
  abbrev l : ℕ
  l = low f

  u : Dyads f (rest_of_green_lagrange f ini).gu0.x.v (l - i) e_x 4
  u = (gu0_x f i j s ini rest).1

  v : Dyads f (rest_of_green_lagrange f ini).gu0.y.v (l - j) e_y 4
  v = (gu0_y f i j s ini rest).1

  times : {x y : Float} {p q k : ℕ} {n o : Num} {C D : ℕ} → p + q ≡ k + l → k ≤ l → C * D < 4096 → Dyad f x p n C → Dyad f y q o D → Dyad f (x ⊗ y) k (n ⊠ o) (C * D)
  times {k = k} e h few a b = dyad_mul f k e (room f i j s k (omega arith)) a b (omega (arith, few, tiny f))

  pub xx_factors : Dyads f (gugu0 f ini).xx (l - (i + i)) e_x 16
  unfolding gugu0_of
  xx_factors =
      let e : l - i + (l - i) ≡ l - (i + i) + l = omega (arith, s.deep) in
      let vx = nothing f v.x (l - i) 4 in
      record { x = times e (omega arith) (lit≤ tt) u.x u.x; y = times e (omega arith) (lit≤ tt) vx vx; z = times e (omega arith) (lit≤ tt) u.x vx }

  pub yy_factors : Dyads f (gugu0 f ini).yy (l - (j + j)) e_y 16
  unfolding gugu0_of
  yy_factors =
      let e : l - j + (l - j) ≡ l - (j + j) + l = omega (arith, s.deep) in
      let uy = nothing f u.y (l - j) 4 in
      record { x = times e (omega arith) (lit≤ tt) uy uy; y = times e (omega arith) (lit≤ tt) v.y v.y; z = times e (omega arith) (lit≤ tt) uy v.y }

  pub xy_factors : Dyads f (gugu0 f ini).xy (l - (i + j)) e_z 32
  unfolding gugu0_of
  xy_factors =
      let e : l - i + (l - j) ≡ l - (i + j) + l = omega (arith, s.deep) in
      let d : l + (l - i) ≡ l - i + l = omega arith in
      record {
        x = times e (omega arith) (lit≤ tt) (times d (omega arith) (lit≤ tt) (two_dyad f) u.x) (nothing f u.y (l - j) 4);
        y = times e (omega arith) (lit≤ tt) (times d (omega arith) (lit≤ tt) (two_dyad f) (nothing f v.x (l - i) 4)) v.y;
        z = dyad_add f (room f i j s (l - (i + j)) (omega arith)) (times e (omega arith) (lit≤ tt) u.x v.y) (times e (omega arith) (lit≤ tt) u.y v.x) (omega (arith, tiny f));
      }
