-- Of whole corners no rounding hides a turn or makes one: the computed area is the exact one, so it says of a triangle what the exact one's sign says. Where none turns right, each exact share is
-- its own size.
use mathlib.Core.Path.{◌≡◌, sym, ◌∙◌}
use mathlib.Core.Bool.{true}
use mathlib.Core.List.{List}
use mathlib.Core.Logic.{◌↔◌}
use Prim.Native.Nat.{ℕ, zero, suc, ◌+◌, ◌*◌, ◌^◌, ◌<◌}
use native.Mathlib.Nat.{mul-pos}
use lib.Dec.{lit≤}
use lib.Pow.{pow_pos}
use lib.Ieee.{Float, Format, prec, low}
use Rattle.float.specs.Lists.{All, every}
use Rattle.float.proofs.Each.{all_map, all_not, some_iff}
use Rattle.rounding.specs.Exact.{Negative, OwnSize, value}
use Rattle.rounding.specs.Whole.{unit}
use Rattle.rounding.proofs.Num.{own_size, own_product, negative_multiple}
use Rattle.rounding.proofs.Value.{below_zero, own_value}
use Rattle.rounding.proofs.Margin.{Between}
use Rattle.refusal.specs.Refusal.{bad_length, bad_name, bad_input, turned}
use Rattle.material.specs.declared.Material.{Material}
use Rattle.del_geo_core.specs.Tri2.{area_of, signed_area_of}
use Rattle.del_geo_core.specs.Tri2.{Tri2}
use Rattle.del_geo_core.specs.declared.tri2.Turn.TheVariants.{Right}
use Rattle.del_geo_core.proofs.Turn.{is_right_exactly, right_below}
use Rattle.places.specs.Plane.{triangles}
use Rattle.mitc_tri3.specs.Masses.{SomeTurned, IsMasses}
use Rattle.mitc_tri3.proofs.MassesAnswer.{turned_exactly}
use Rattle.mass_bounds.specs.Range.{whole_at}
use Rattle.mass_bounds.specs.Shares.{twice_area, SomeNegative, weight, exact_share}
use Rattle.mass_bounds.proofs.Premises.{Corners, all_corners}
use Rattle.mass_bounds.proofs.Area.{area_exact}

module _ (f : Format) (B : ℕ) (wide : (B + B) * (B + B) + (B + B) * (B + B) < 2 ^ prec f) where
  right_negative : (p : Tri2) → Corners f B p → (signed_area_of f p.p0 p.p1 p.p2).turn ≡ Right ↔ Negative (twice_area f p)
  right_negative p corners =
      let a012 = area_of f p.p0 p.p1 p.p2 in
      let area = area_exact f B wide p corners in
      let (is_right, right) = is_right_exactly (signed_area_of f p.p0 p.p1 p.p2).turn in
      let (negative, below) = below_zero f a012 area.number in
      let (twice, half) = negative_multiple (2 * unit f) (value f a012) (twice_area f p) (mul-pos (lit≤ tt) (pow_pos (low f))) area.exact in
      ((λ e. twice (negative (sym (right_below f a012) ∙ right e))), λ n. is_right (right_below f a012 ∙ below (half n)))

  module _ (tri2vtx : List ℕ) (vtx2xy : List Float) (whole : every (whole_at f B vtx2xy) tri2vtx ≡ true) where
    pub turned_negative : SomeTurned f tri2vtx vtx2xy ↔ SomeNegative f tri2vtx vtx2xy
    turned_negative = some_iff _ _ (triangles tri2vtx vtx2xy) (all_map right_negative (triangles tri2vtx vtx2xy) (all_corners f B vtx2xy tri2vtx whole))

    -- THE law of a turn: a panel that gets none of 1, 2 and 3 is refused with 6 exactly where some triangle's exact signed area is negative
    pub refused_6_exactly : (material : Material) (before : List Float) {r : ℕ} {after : List Float} → IsMasses f tri2vtx vtx2xy material before r after
        → (r ≡ bad_length → ⊥) → (r ≡ bad_name → ⊥) → (r ≡ bad_input → ⊥) → r ≡ turned ↔ SomeNegative f tri2vtx vtx2xy
    refused_6_exactly material before is not1 not2 not3 =
        let (given, by) = turned_exactly f tri2vtx vtx2xy material before is not1 not2 not3 in
        ((λ e. turned_negative.0 (given e)), λ n. by (turned_negative.1 n))

-- ---- shares and their sizes
module _ (f : Format) {R : ℕ} (thick rho : Float) (t : Between f R thick) (r : Between f R rho) where
  own_weight : (k : ℕ) → OwnSize (weight f k thick rho)
  unfolding weight
  own_weight zero = own_product _ _ (own_value f rho r.above) (own_value f thick t.above)
  own_weight (suc k) =
      let own = own_value f thick t.above in
      own_product _ _ (own_value f rho r.above) (own_product _ _ (own_product _ _ own own) own)

  pub own_shares : (tri2vtx : List ℕ) (vtx2xy : List Float) → (SomeNegative f tri2vtx vtx2xy → ⊥) → (k : ℕ) → All (λ p. OwnSize (exact_share f k thick rho p)) (triangles tri2vtx vtx2xy)
  unfolding exact_share
  own_shares tri2vtx vtx2xy none k =
      let all = triangles tri2vtx vtx2xy in
      all_map (λ p h. own_product _ _ (own_size (twice_area f p) h) (own_weight k)) all (all_not (λ p. Negative (twice_area f p)) all none)
