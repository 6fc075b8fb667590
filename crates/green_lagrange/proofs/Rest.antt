-- The rest triangle on (0, 0), (2 ^ i, 0), (0, 2 ^ j): its edges, its normal and its contravariant vectors lie along the axes, with lengths that are powers of two.
use mathlib.Core.Path.{◌≡◌, refl}
use mathlib.Core.Bool.{true, false, ◌&&◌}
use Prim.Native.Nat.{ℕ, suc, ◌+◌, ◌-◌, ◌*◌, ◌^◌, ◌≤◌, ◌<◌}
use native.Mathlib.Omega.{arith}
use lib.Ieee.{Format, prec, emax, low}
use Rattle.float.specs.Numbers.{is_zero}
use Rattle.float.proofs.Scan.{both}
use Rattle.refusal.specs.Answers.{zero_divisor_of}
use Rattle.rounding.specs.Exact.{signed}
use Rattle.rounding.specs.Dyadic.{Dyad, Room}
use Rattle.rounding.specs.Whole.{is_natural}
use Rattle.rounding.proofs.Dyadic.{dyad_sub}
use Rattle.rounding.proofs.Whole.{natural, zero_dyad}
use Rattle.del_geo_core.specs.CurveLinearCoords.{contravariant_of}
use Rattle.vec3.specs.Vec3.{norm_of, over_of, unit_of, cross_of}
use Rattle.del_geo_core.specs.Tri2.{Tri2}
use Rattle.del_geo_core.specs.declared.tri2.V2.{V2}
use Rattle.vec3.specs.declared.V3.{V3}
use Rattle.edges.specs.Edges.{plane_of}
use Rattle.strain.specs.Strain.{rest_of_green_lagrange}
use Rattle.green_lagrange.specs.Sheet.{is_at, is_rest}
use Rattle.green_lagrange.proofs.Powers.{tiny, power, nothing, root_power, inverse, not_zero}
use Rattle.green_lagrange.proofs.Vector.{Nums, one, e_x, e_y, e_z, dot, times, Dyads, cross_exact, dot_exact, scale_exact}

-- the plane point (m, n), exactly
abbrev Placed : Format → (m n : ℕ) → V2 → Type 0
Placed f m n p = Dyad f p.x (low f) (signed false m) m × Dyad f p.y (low f) (signed false n) n

placed : (f : Format) (m n : ℕ) (p : V2) → is_at f m n p ≡ true → Placed f m n p
placed f m n p e = let t = both (is_natural f m p.x) _ e in (natural f m p.x t.0, natural f n p.y t.1)

-- i and j are so small that the squares of a b and of 1 / (a b) are far from both ends of the format's range
pub record Small (f : Format) (i j : ℕ) : Type 0 where
  pub high : prec f + 2 * (i + j) ≤ suc (emax f)
  pub deep : 2 * (i + j) + 1 ≤ low f

module _ (f : Format) (i j : ℕ) (s : Small f i j) where
  pub room : (k : ℕ) → k ≤ low f + 2 * (i + j) → Room f k
  room k h = omega (arith, s.high)

  module _ (ini : Tri2) (rest : is_rest f (2 ^ i) (2 ^ j) ini ≡ true) where
    abbrev l : ℕ
    l = low f

    abbrev gd0_x : V3
    gd0_x = (plane_of f ini).x

    abbrev gd0_y : V3
    gd0_y = (plane_of f ini).y

    pub points : Placed f 0 0 ini.p0 × Placed f (2 ^ i) 0 ini.p1 × Placed f 0 (2 ^ j) ini.p2
    points =
        let t = both (is_at f 0 0 ini.p0 && is_at f (2 ^ i) 0 ini.p1) _ rest in
        let u = both (is_at f 0 0 ini.p0) _ t.0 in
        (placed f 0 0 _ u.0, placed f (2 ^ i) 0 _ u.1, placed f 0 (2 ^ j) _ t.1)

    pub edge_x : Dyads f gd0_x (l + i) e_x 1
    unfolding plane_of
    edge_x =
        let o = points.0 in
        let p = points.1 in
        let r = room (l + i) (omega arith) in
        let few : 1 < 2 ^ prec f = omega (arith, tiny f) in
        record {
          x = dyad_sub f r (power f i p.0) (nothing f o.0 (l + i) 0) few;
          y = dyad_sub f r (nothing f p.1 (l + i) 1) (nothing f o.1 (l + i) 0) few;
          z = nothing f (zero_dyad f) (l + i) 1;
        }

    pub edge_y : Dyads f gd0_y (l + j) e_y 1
    unfolding plane_of
    edge_y =
        let o = points.0 in
        let p = points.2 in
        let r = room (l + j) (omega arith) in
        let few : 1 < 2 ^ prec f = omega (arith, tiny f) in
        record {
          x = dyad_sub f r (nothing f p.0 (l + j) 1) (nothing f o.0 (l + j) 0) few;
          y = dyad_sub f r (power f j p.1) (nothing f o.1 (l + j) 0) few;
          z = nothing f (zero_dyad f) (l + j) 1;
        }

    -- a b along the third axis, and that is its norm
    normal : Dyads f (cross_of f gd0_x gd0_y) (l + i + j) e_z 2
    normal = cross_exact f (l + i + j) (omega arith) (room (l + i + j) (omega arith)) edge_x edge_y (omega (arith, tiny f))

    norm_is : norm_of f (cross_of f gd0_x gd0_y) ≡ (cross_of f gd0_x gd0_y).z
    unfolding norm_of
    norm_is =
        root_power f {k = l + 2 * (i + j)} (omega arith)
        (dot_exact f (l + 2 * (i + j)) (omega arith) (room (l + 2 * (i + j)) (omega arith)) normal normal (omega (arith, tiny f))) normal.z

    gd0_z_lem : Dyads f (unit_of f (cross_of f gd0_x gd0_y)).v l e_z 2
    unfolding unit_of over_of
    gd0_z_lem =
        rw norm_is
        (scale_exact f l (omega (arith, s.deep)) (room l (omega arith)) normal
        (inverse f (l - (i + j)) (omega (arith, s.deep)) (room (l - (i + j)) (omega arith)) normal.z) (omega (arith, tiny f)))

    -- across g1 and g2 lies a vector of 2 ^ p units along the axis of g0, which is 2 ^ q units long: their dot is a b
    across : (g0 g1 g2 : V3) {n : Nums} {p q : ℕ} (k : ℕ) → dot n n ≡ one → p + q ≡ l + i + j + l → p + (l - (i + j)) ≡ k + l → k ≤ l
        → Dyads f (cross_of f g1 g2) p n 4 → Dyads f g0 q n 1
        → (is_zero (contravariant_of f g0 g1 g2).by ≡ false) × Dyads f (contravariant_of f g0 g1 g2).v k (times n one) 4
    unfolding contravariant_of over_of
    across g0 g1 g2 k long e h k≤ gu g =
        let by = rw long at (dot_exact f (l + i + j) e (room (l + i + j) (omega arith)) gu g (omega (arith, tiny f))) in
        (not_zero f by, scale_exact f k h (room k (omega arith)) gu (inverse f (l - (i + j)) (omega (arith, s.deep)) (room (l - (i + j)) (omega arith)) by) (omega (arith, tiny f)))

    pub gu0_x : (is_zero (rest_of_green_lagrange f ini).gu0.x.by ≡ false) × Dyads f (rest_of_green_lagrange f ini).gu0.x.v (l - i) e_x 4
    unfolding rest_of_green_lagrange
    gu0_x =
        across gd0_x gd0_y _ (l - i) refl (omega arith) (omega (arith, s.deep)) (omega arith)
        (cross_exact f (l + j) (omega arith) (room (l + j) (omega arith)) edge_y gd0_z_lem (omega (arith, tiny f))) edge_x

    pub gu0_y : (is_zero (rest_of_green_lagrange f ini).gu0.y.by ≡ false) × Dyads f (rest_of_green_lagrange f ini).gu0.y.v (l - j) e_y 4
    unfolding rest_of_green_lagrange
    gu0_y =
        across gd0_y _ gd0_x (l - j) refl (omega arith) (omega (arith, s.deep)) (omega arith)
        (cross_exact f (l + i) (omega arith) (room (l + i) (omega arith)) gd0_z_lem edge_x (omega (arith, tiny f))) edge_y

    norm_not_zero : is_zero (rest_of_green_lagrange f ini).gd0_z.by ≡ false
    unfolding rest_of_green_lagrange unit_of over_of
    norm_not_zero = rw norm_is (not_zero f normal.z)

    pub divisors : (let rest = rest_of_green_lagrange f ini in zero_divisor_of rest.gd0_z.by rest.gu0.x.by rest.gu0.y.by) ≡ false
    unfolding zero_divisor_of
    divisors = rw (norm_not_zero, gu0_x.0, gu0_y.0)
