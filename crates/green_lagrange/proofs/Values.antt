-- The values and derivatives for a rest triangle on (0, 0), (2 ^ i, 0), (0, 2 ^ j) and whole deformed corners: each factor is a power of two along one axis, so every product and sum is exact.
use mathlib.Core.Path.{◌≡◌, refl, sym, ap, ◌∙◌}
use mathlib.Core.Bool.{true, false}
use Prim.Native.Nat.{ℕ, zero, suc, ◌+◌, ◌-◌, ◌*◌, ◌^◌, ◌≤◌, ◌<◌}
use native.Mathlib.Nat.{mul-pos, mul-le-mul_left, lt_of_le_of_lt}
use native.Mathlib.Omega.{arith}
use lib.Dec.{lit≤}
use lib.Pow.{pow-add, pow_pos}
use lib.Ieee.{Float, Format, prec, low}
use Rattle.float.specs.Ops.{ops}
use Rattle.rounding.specs.Exact.{Num, Equal, ◌⊞◌, ◌⊟◌, ◌⊠◌, scale, signed}
use Rattle.rounding.specs.Dyadic.{Dyad, Room}
use Rattle.rounding.specs.Whole.{unit}
use Rattle.rounding.proofs.Nearest.{top_digit}
use Rattle.rounding.proofs.Dyadic.{whole_room, dyad_as, dyad_neg, dyad_add, dyad_sub, dyad_mul}
use Rattle.rounding.proofs.Whole.{half_dyad}
use Rattle.places.specs.Places.{component as coordinate}
use Rattle.vec3.specs.Vec3.{dot_of}
use Rattle.del_geo_core.specs.Tri2.{Tri2}
use Rattle.del_geo_core.specs.Tri3.{Tri3}
use Rattle.vec3.specs.declared.V3.{V3}
use Rattle.edges.specs.Edges.{plane_of, space_of, glstrain_of}
use Rattle.strain.specs.Strain.{hoge_of, dw_k_of}
use Rattle.green_lagrange.specs.Sheet.{is_rest, is_whole}
use Rattle.green_lagrange.proofs.Corners.{edge, corners}
use Rattle.green_lagrange.proofs.Factors.{gugu0, xx_factors, yy_factors, xy_factors}
use Rattle.green_lagrange.proofs.Fraction.{Quotient, quotient}
use Rattle.green_lagrange.proofs.Gradient.{slope_x, slope_y}
use Rattle.green_lagrange.proofs.Places.{corner}
use Rattle.green_lagrange.proofs.Powers.{tiny, nothing}
use Rattle.green_lagrange.proofs.Rest.{Small, room, edge_x, edge_y}
use Rattle.green_lagrange.proofs.Vector.{Nums, one, none, e_x, e_y, e_z, component, dot, Dyads, sub_exact, dot_exact}

-- the strains along the edges
abbrev pub glstrain : Format → Tri2 → Tri3 → V3
glstrain f ini def = glstrain_of f (plane_of f ini) (space_of f def)

-- (s, t) and (p, q) by the symmetric matrix n, its off-diagonal last
abbrev pub form : Nums → (s t p q : Num) → Num
form n s t p q = (n.x ⊠ s ⊞ n.z ⊠ t) ⊠ p ⊞ (n.z ⊠ s ⊞ n.y ⊠ t) ⊠ q

-- the digits suffice, where B bounds the corners' coordinates and S the squares of a and b: a strain along the edges has at most six products of two edges' coordinates in it and one square, and a
-- value is three of them times factors of size 32 at most; a derivative is two products of 64 at most by an edge's coordinate
pub record Margins (f : Format) (i j B S : ℕ) : Type 0 where
  pub small : Small f i j
  pub a² : 2 ^ i * 2 ^ i ≤ S
  pub b² : 2 ^ j * 2 ^ j ≤ S
  pub strains : 96 * (6 * ((B + B) * (B + B)) + S) < 2 ^ prec f
  pub derivatives : 128 * (B + B) < 2 ^ prec f

module _ (f : Format) {i j B S : ℕ} (m : Margins f i j B S) (ini : Tri2) (rest : is_rest f (2 ^ i) (2 ^ j) ini ≡ true) (def : Tri3) (deformed : is_whole f B def ≡ true) where
  open ops f use {◌⊕◌, ◌⊗◌, half}

  infixl 75 ◌⊕◌
  infixl 80 ◌⊗◌
  abbrev l : ℕ
  l = low f

  abbrev W : ℕ
  W = B + B

  -- no component of a strain along the edges is larger
  abbrev G : ℕ
  G = 6 * (W * W) + S

  -- and no coordinate of a derivative than this
  abbrev D : ℕ
  D = 64 * W + 64 * W

  abbrev d1 : Nums
  d1 = edge f def.p0 def.p1

  abbrev d2 : Nums
  d2 = edge f def.p0 def.p2

  W< : W < 2 ^ prec f
  W< = lt_of_le_of_lt (omega arith) m.derivatives

  deformed_x : Dyads f (space_of f def).x l d1 W
  unfolding space_of
  deformed_x = let c = corners f B def deformed in sub_exact f (whole_room f) c.1 c.0 W<

  deformed_y : Dyads f (space_of f def).y l d2 W
  unfolding space_of
  deformed_y = let c = corners f B def deformed in sub_exact f (whole_room f) c.2 c.0 W<

  -- ---- the strains along the edges, in halves
  dots : {u v : V3} {n k : Nums} → Dyads f u l n W → Dyads f v l k W → Dyad f (dot_of f u v) l (dot n k) (W * W + W * W + W * W)
  dots a b = dot_exact f l refl (whole_room f) a b (lt_of_le_of_lt (omega arith) m.strains)

  -- the square of a rest edge
  length² : {u : V3} {n : Nums} (k : ℕ) → dot n n ≡ one → k ≤ i + j → 2 ^ k * 2 ^ k ≤ S → Dyads f u (l + k) n 1 → Dyad f (dot_of f u u) l (signed false (2 ^ k * 2 ^ k)) S
  length² k long h s a =
      dyad_as (rw long at (dot_exact f (l + k + k) (omega arith) (room f i j m.small (l + k + k) (omega arith)) a a (omega (arith, tiny f))))
      (rw (pow-add 2 (l + k) k, pow-add 2 l k) (omega arith)) (omega (arith, s))

  halved : {x : Float} {n : Num} {C : ℕ} → C < 2 ^ prec f → Dyad f x l n C → Dyad f (half ⊗ x) (l - 1) n C
  halved h a = dyad_as (dyad_mul f (l - 1) refl (room f i j m.small (l - 1) (omega arith)) (half_dyad f) a (omega (arith, h))) (omega arith) a.small

  abbrev gl : Nums
  gl = record { x = dot d1 d1 ⊟ signed false (2 ^ i * 2 ^ i); y = dot d2 d2 ⊟ signed false (2 ^ j * 2 ^ j); z = scale 2 (dot d1 d2) }

  strains : Dyads f (glstrain f ini def) (l - 1) gl G
  unfolding glstrain_of
  strains =
      let ex = edge_x f i j m.small ini rest in
      let ey = edge_y f i j m.small ini rest in
      let few : W * W + W * W + W * W + S < 2 ^ prec f = lt_of_le_of_lt (omega arith) m.strains in
      let x = halved few (dyad_sub f (whole_room f) (dots deformed_x deformed_x) (length² i refl (omega arith) m.a² ex) few) in
      let y = halved few (dyad_sub f (whole_room f) (dots deformed_y deformed_y) (length² j refl (omega arith) m.b² ey) few) in
      let across = dot_exact f (l + i + j) (omega arith) (room f i j m.small (l + i + j) (omega arith)) ex ey (omega (arith, tiny f)) in
      let z = dyad_sub f (whole_room f) (dots deformed_x deformed_y) (nothing f across l 0) (lt_of_le_of_lt (omega arith) m.strains) in
      record {
        x = dyad_as x refl (omega (arith, x.small));
        y = dyad_as y refl (omega (arith, y.small));
        z = dyad_as z (twice (2 ^ l) (2 ^ (l - 1)) (dot d1 d2) (top_digit l (omega (arith, m.small.deep)))) (omega (arith, z.small));
      }
    where
      twice : (p h : ℕ) (n : Num) → p ≡ h * 2 → Equal (scale p (n ⊟ none)) (scale h (scale 2 n))
      twice p h n e = rw e (omega arith)

  -- ---- one value and its derivatives, for factors g that are n / d: the value is over 2 d, a derivative over d
  pub record Component (g : V3) (n : Nums) (d : ℕ) : Type 0 where
    pub is : Quotient f (dot_of f (glstrain f ini def) g) (dot gl n) (2 * d)
    pub by : (c axis : ℕ) → Quotient f (coordinate axis (corner c (dw_k_of f (space_of f def) g))) (form n (slope_x c) (slope_y c) (component axis d1) (component axis d2)) d

  module _ {g : V3} {k : ℕ} {n : Nums} {C : ℕ} (k≤ : k ≤ l) (k+ : 0 < k) (C≤ : C ≤ 32) (a : Dyads f g k n C) where
    r : Room f k
    r = room f i j m.small k (omega arith)

    value_exact : Dyad f (dot_of f (glstrain f ini def) g) (k - 1) (dot gl n) (G * C + G * C + G * C)
    value_exact = dot_exact f (k - 1) (omega arith) (room f i j m.small (k - 1) (omega arith)) strains a (lt_of_le_of_lt (omega (arith, mul-le-mul_left G C≤)) m.strains)

    -- a coordinate of a derivative, for the factors x and y of the edges
    sum : {x y s t : Float} {o p q v : Num} → Dyad f x k o 64 → Dyad f y k p 64 → Dyad f s l q W → Dyad f t l v W → Dyad f (x ⊗ s ⊕ y ⊗ t) k (o ⊠ q ⊞ p ⊠ v) D
    sum b c d e =
        let w : D < 2 ^ prec f = lt_of_le_of_lt (omega arith) m.derivatives in
        let h : 64 * W < 2 ^ prec f = lt_of_le_of_lt (omega arith) w in
        dyad_add f r (dyad_mul f k refl r b d h) (dyad_mul f k refl r c e h) w

    part : {x y : Float} {o p : Num} → Dyad f x k o 64 → Dyad f y k p 64 → (axis : ℕ)
        → Dyad f (coordinate axis (hoge_of f (space_of f def) x y)) k (o ⊠ component axis d1 ⊞ p ⊠ component axis d2) D
    unfolding hoge_of
    part b c zero = sum b c deformed_x.x deformed_y.x
    part b c (suc zero) = sum b c deformed_x.y deformed_y.y
    part b c (suc (suc axis)) = sum b c deformed_x.z deformed_y.z

    few : C + C ≤ 64
    few = omega (arith, C≤)

    -- a factor of an edge, as n and the slopes have it
    factor : {x : Float} {o p : Num} {B : ℕ} → B ≤ C + C → Equal o p → Dyad f x k o B → Dyad f x k p 64
    factor h e b = dyad_as b (omega (arith, ap (λ (z : ℕ). 2 ^ k * z) e)) (omega (arith, b.small, h, few))

    derivative_exact : (c axis : ℕ)
        → Dyad f (coordinate axis (corner c (dw_k_of f (space_of f def) g))) k (form n (slope_x c) (slope_y c) (component axis d1) (component axis d2)) D
    unfolding dw_k_of
    derivative_exact zero =
        let two : C + C < 2 ^ prec f = omega (arith, few, tiny f) in
        part (factor (omega arith) (omega arith) (dyad_neg (dyad_add f r a.x a.z two))) (factor (omega arith) (omega arith) (dyad_neg (dyad_add f r a.y a.z two)))
    derivative_exact (suc zero) = part (factor (omega arith) (omega arith) a.x) (factor (omega arith) (omega arith) a.z)
    derivative_exact (suc (suc c)) = part (factor (omega arith) (omega arith) a.z) (factor (omega arith) (omega arith) a.y)

    component_exact : (d : ℕ) → 2 ^ k * d ≡ unit f → 0 < d → Component g n d
    component_exact d e d+ = record {
      is = quotient f (omega (arith, rw (top_digit k k+) at e)) (omega arith) value_exact;
      by = λ c axis. quotient f e d+ (derivative_exact c axis);
    }

  -- 2 ^ (l - (p + q)) units are 1 / (2 ^ p * 2 ^ q)
  product : (p q : ℕ) → p + q ≤ 2 * (i + j) → 2 ^ (l - (p + q)) * (2 ^ p * 2 ^ q) ≡ unit f
  product p q h =
      let e : l - (p + q) + (p + q) ≡ l = omega (arith, m.small.deep) in
      rw (← pow-add) (sym (pow-add 2 (l - (p + q)) (p + q)) ∙ ap (λ (z : ℕ). 2 ^ z) e)

  -- ---- THE laws of the three values
  pub xx : Component (gugu0 f ini).xx e_x (2 ^ i * 2 ^ i)
  xx = component_exact (omega arith) (omega (arith, m.small.deep)) (lit≤ tt) (xx_factors f i j m.small ini rest) (2 ^ i * 2 ^ i) (product i i (omega arith)) (mul-pos (pow_pos i) (pow_pos i))

  pub yy : Component (gugu0 f ini).yy e_y (2 ^ j * 2 ^ j)
  yy = component_exact (omega arith) (omega (arith, m.small.deep)) (lit≤ tt) (yy_factors f i j m.small ini rest) (2 ^ j * 2 ^ j) (product j j (omega arith)) (mul-pos (pow_pos j) (pow_pos j))

  pub xy : Component (gugu0 f ini).xy e_z (2 ^ i * 2 ^ j)
  xy = component_exact (omega arith) (omega (arith, m.small.deep)) (lit≤ tt) (xy_factors f i j m.small ini rest) (2 ^ i * 2 ^ j) (product i j (omega arith)) (mul-pos (pow_pos i) (pow_pos j))
