-- The deformed corners, counted in ones, and the edges between them.
use mathlib.Core.Path.{◌≡◌}
use mathlib.Core.Bool.{true, ◌&&◌}
use Prim.Native.Nat.{ℕ}
use lib.Ieee.{Format, low}
use Rattle.float.proofs.Scan.{both}
use Rattle.rounding.specs.Whole.{is_whole_up_to}
use Rattle.rounding.proofs.Whole.{whole, coordinate}
use Rattle.del_geo_core.specs.Tri3.{Tri3}
use Rattle.vec3.specs.declared.V3.{V3}
use Rattle.green_lagrange.specs.Sheet.{is_whole_point, is_whole}
use Rattle.green_lagrange.proofs.Vector.{Nums, minus, Dyads}

abbrev ones : Format → V3 → Nums
ones f p = record { x = whole f p.x; y = whole f p.y; z = whole f p.z }

-- from p to q
abbrev pub edge : Format → (p q : V3) → Nums
edge f p q = minus (ones f q) (ones f p)

module _ (f : Format) (B : ℕ) where
  corner : (p : V3) → is_whole_point f B p ≡ true → Dyads f p (low f) (ones f p) B
  corner p e =
      let t = both (is_whole_up_to f B p.x && is_whole_up_to f B p.y) _ e in
      let u = both (is_whole_up_to f B p.x) _ t.0 in
      record { x = coordinate f B _ u.0; y = coordinate f B _ u.1; z = coordinate f B _ t.1 }

  pub corners : (def : Tri3) → is_whole f B def ≡ true
      → Dyads f def.p0 (low f) (ones f def.p0) B × Dyads f def.p1 (low f) (ones f def.p1) B × Dyads f def.p2 (low f) (ones f def.p2) B
  corners def e =
      let t = both (is_whole_point f B def.p0 && is_whole_point f B def.p1) _ e in
      let u = both (is_whole_point f B def.p0) _ t.0 in
      (corner _ u.0, corner _ u.1, corner _ t.1)
