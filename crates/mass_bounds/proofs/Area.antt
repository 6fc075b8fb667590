-- The computed area of a triangle with whole coordinates is exact: each step gives a whole number, or half of one, that the format holds.
use mathlib.Core.Path.{◌≡◌, refl, ap}
use mathlib.Core.Bool.{false}
use Prim.Native.Nat.{ℕ, zero, suc, ◌+◌, ◌-◌, ◌*◌, ◌^◌, ◌<◌}
use native.Mathlib.Nat.{lt_of_le_of_lt}
use native.Mathlib.Omega.{arith}
use lib.Pow.{pow_pos}
use lib.Ieee.{Float, Format, prec, low}
use lib.Ieee.Fits.{two, reach}
use Rattle.float.specs.Ops.{ops}
use Rattle.rounding.specs.Exact.{Num, Equal, ◌⊟◌, ◌⊠◌, scale, size_of, signed, value, Number}
use Rattle.rounding.specs.Dyadic.{Dyad, Room}
use Rattle.rounding.specs.Whole.{unit}
use Rattle.rounding.proofs.Num.{difference_scale, product_scale}
use Rattle.rounding.proofs.Nearest.{top_digit}
use Rattle.rounding.proofs.Dyadic.{whole_room, dyad_sub, dyad_mul}
use Rattle.rounding.proofs.Whole.{whole, Coordinate, half_dyad}
use Rattle.del_geo_core.specs.Tri2.{area_of}
use Rattle.del_geo_core.specs.Tri2.{Tri2}
use Rattle.mass_bounds.specs.Shares.{twice_area}
use Rattle.mass_bounds.proofs.Premises.{Corners}

module _ (f : Format) where
  open ops f use {◌⊖◌, ◌⊗◌}

  infixl 75 ◌⊖◌
  infixl 80 ◌⊗◌
  -- what is known of the computed area of p: twice it is the exact one, a number of ones that fits into the digits
  pub record AreaOf (p : Tri2) : Type 0 where
    pub number : Number f (area_of f p.p0 p.p1 p.p2)
    pub ones : Num
    pub few : size_of ones < 2 ^ prec f
    pub exact : Equal (scale (2 * unit f) (value f (area_of f p.p0 p.p1 p.p2))) (twice_area f p)
    pub is : Equal (twice_area f p) (scale (unit f * unit f) ones)

  module _ (B : ℕ) (wide : (B + B) * (B + B) + (B + B) * (B + B) < 2 ^ prec f) where
    abbrev W : ℕ
    W = B + B

    half_room : Room f (low f - 1)
    half_room = omega (arith, whole_room f)

    W< : W < 2 ^ prec f
    W< = go W (2 ^ prec f) (pow_pos (prec f)) wide
      where
        go : (d P : ℕ) → 0 < P → d * d + d * d < P → d < P
        go zero P p h = p
        go (suc d) P p h = omega arith

    W*W< : W * W < 2 ^ prec f
    W*W< = lt_of_le_of_lt (omega arith) wide

    -- a difference of coordinates, and a product of two
    minus : {x y : Float} → Coordinate f B x → Coordinate f B y → Dyad f (x ⊖ y) (low f) (whole f x ⊟ whole f y) W
    minus a b = dyad_sub f (whole_room f) a b W<

    times : {x y : Float} {n m : Num} → Dyad f x (low f) n W → Dyad f y (low f) m W → Dyad f (x ⊗ y) (low f) (n ⊠ m) (W * W)
    times a b = dyad_mul f (low f) refl (whole_room f) a b W*W<

    -- exactly, in units of units
    exactly : {x0 x1 y0 y1 : Float} → Coordinate f B x0 → Coordinate f B x1 → Coordinate f B y0 → Coordinate f B y1
        → Equal ((value f x1 ⊟ value f x0) ⊠ (value f y1 ⊟ value f y0)) (scale (unit f * unit f) ((whole f x1 ⊟ whole f x0) ⊠ (whole f y1 ⊟ whole f y0)))
    exactly {x0} {x1} {y0} {y1} a0 a1 b0 b1 =
        product_scale _ _ (whole f x1 ⊟ whole f x0) (whole f y1 ⊟ whole f y0) (unit f) (unit f)
        (difference_scale (value f x1) (value f x0) _ _ (unit f) a1.is a0.is) (difference_scale (value f y1) (value f y0) _ _ (unit f) b1.is b0.is)

    pub area_exact : (p : Tri2) → Corners f B p → AreaOf p
    unfolding twice_area
    area_exact p ((x0, y0), (x1, y1), (x2, y2)) =
        let twice = dyad_sub f (whole_room f) (times (minus x1 x0) (minus y2 y0)) (times (minus x2 x0) (minus y1 y0)) wide in
        let area = dyad_mul f (low f - 1) refl half_room (half_dyad f) twice (omega (arith, wide)) in
        let is = difference_scale _ _ _ _ (unit f * unit f) (exactly x0 x1 y0 y2) (exactly x0 x2 y0 y1) in
        record {
          number = area.number;
          ones = _;
          few = lt_of_le_of_lt twice.small wide;
          exact = go (2 ^ (low f - 1)) (unit f) _ _ _ (top_digit (low f) (omega (arith, two f, reach f))) area.is is;
          is = is;
        }
      where
        go : (h l : ℕ) (v a n : Num) → l ≡ h * 2 → Equal v (scale h (signed false 1 ⊠ n)) → Equal a (scale (l * l) n) → Equal (scale (2 * l) v) a
        go h l v a n e d k = omega (arith, k, ap (λ (z : ℕ). l * z) d, ap (λ (z : ℕ). l * n.plus * z) e, ap (λ (z : ℕ). l * n.minus * z) e)
