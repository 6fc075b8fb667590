-- Vectors of three numbers whose components are whole multiples of one power of two: the helpers' operations on them are exact.
use mathlib.Core.Path.{◌≡◌}
use mathlib.Core.Bool.{true, false}
use Prim.Native.Nat.{ℕ, zero, suc, ◌+◌, ◌*◌, ◌^◌, ◌<◌}
use native.Mathlib.Nat.{lt_of_le_of_lt}
use native.Mathlib.Omega.{arith}
use lib.Ieee.{Float, Format, prec, low}
use lib.Ieee.Bits.{is_true}
use lib.Ieee.Scale.{finite}
use Rattle.rounding.specs.Exact.{Num, ◌⊞◌, ◌⊟◌, ◌⊠◌, signed, Number}
use Rattle.rounding.specs.Dyadic.{Dyad, Room}
use Rattle.rounding.proofs.Dyadic.{dyad_add, dyad_sub, dyad_mul}
use Rattle.vec3.specs.Vec3.{dot_of, cross_of, sub_of, scale_of}
use Rattle.vec3.specs.declared.V3.{V3}

pub record Nums : Type 0 where
  pub x : Num
  pub y : Num
  pub z : Num

abbrev pub one : Num
one = signed false 1

abbrev pub none : Num
none = signed false 0

abbrev pub minus_one : Num
minus_one = signed true 1

abbrev pub component : (i : ℕ) → Nums → Num
component zero n = n.x
component (suc zero) n = n.y
component (suc (suc i)) n = n.z

-- along the axes
abbrev pub e_x : Nums
e_x = record { x = one; y = none; z = none }

abbrev pub e_y : Nums
e_y = record { x = none; y = one; z = none }

abbrev pub e_z : Nums
e_z = record { x = none; y = none; z = one }

abbrev pub dot : Nums → Nums → Num
dot n m = n.x ⊠ m.x ⊞ n.y ⊠ m.y ⊞ n.z ⊠ m.z

abbrev cross : Nums → Nums → Nums
cross n m = record { x = n.y ⊠ m.z ⊟ n.z ⊠ m.y; y = n.z ⊠ m.x ⊟ n.x ⊠ m.z; z = n.x ⊠ m.y ⊟ n.y ⊠ m.x }

abbrev pub minus : Nums → Nums → Nums
minus n m = record { x = n.x ⊟ m.x; y = n.y ⊟ m.y; z = n.z ⊟ m.z }

abbrev pub times : Nums → Num → Nums
times n k = record { x = n.x ⊠ k; y = n.y ⊠ k; z = n.z ⊠ k }

pub good : {f : Format} {x : Float} → Number f x → finite x ≡ true
good n = is_true _ n.fine

-- v is n * 2 ^ j units, each component of n of size B at most
pub record Dyads (f : Format) (v : V3) (j : ℕ) (n : Nums) (B : ℕ) : Type 0 where
  pub x : Dyad f v.x j n.x B
  pub y : Dyad f v.y j n.y B
  pub z : Dyad f v.z j n.z B

module _ (f : Format) {u v : V3} {j : ℕ} {n m : Nums} {B C : ℕ} where
  pub sub_exact : Room f j → Dyads f u j n B → Dyads f v j m C → B + C < 2 ^ prec f → Dyads f (sub_of f u v) j (minus n m) (B + C)
  sub_exact room a b h = record { x = dyad_sub f room a.x b.x h; y = dyad_sub f room a.y b.y h; z = dyad_sub f room a.z b.z h }

  module _ {i : ℕ} (k : ℕ) (e : j + i ≡ k + low f) (room : Room f k) (a : Dyads f u j n B) (b : Dyads f v i m C) where
    pub dot_exact : B * C + B * C + B * C < 2 ^ prec f → Dyad f (dot_of f u v) k (dot n m) (B * C + B * C + B * C)
    dot_exact h =
        let l : B * C < 2 ^ prec f = lt_of_le_of_lt (omega arith) h in
        dyad_add f room (dyad_add f room (dyad_mul f k e room a.x b.x l) (dyad_mul f k e room a.y b.y l) (lt_of_le_of_lt (omega arith) h))
        (dyad_mul f k e room a.z b.z l) h

    pub cross_exact : B * C + B * C < 2 ^ prec f → Dyads f (cross_of f u v) k (cross n m) (B * C + B * C)
    cross_exact h =
        let l : B * C < 2 ^ prec f = lt_of_le_of_lt (omega arith) h in
        record {
          x = dyad_sub f room (dyad_mul f k e room a.y b.z l) (dyad_mul f k e room a.z b.y l) h;
          y = dyad_sub f room (dyad_mul f k e room a.z b.x l) (dyad_mul f k e room a.x b.z l) h;
          z = dyad_sub f room (dyad_mul f k e room a.x b.y l) (dyad_mul f k e room a.y b.x l) h;
        }

pub scale_exact : (f : Format) {u : V3} {s : Float} {j i : ℕ} {n : Nums} {m : Num} {B C : ℕ} (k : ℕ) → j + i ≡ k + low f → Room f k → Dyads f u j n B → Dyad f s i m C
    → B * C < 2 ^ prec f → Dyads f (scale_of f u s) k (times n m) (B * C)
scale_exact f k e room a b h = record { x = dyad_mul f k e room a.x b h; y = dyad_mul f k e room a.y b h; z = dyad_mul f k e room a.z b h }
