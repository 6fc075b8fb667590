-- Powers of two and zeros among the floats: a natural number 2 ^ i is 1 at the grain low + i, and nothing is nothing at every grain.
use mathlib.Core.Path.{◌≡◌, refl}
use mathlib.Core.Bool.{true, false}
use Prim.Native.Nat.{ℕ, zero, suc, ◌+◌, ◌*◌, ◌^◌, ◌<◌}
use native.Mathlib.Omega.{arith}
use lib.Dec.{T, lit≤}
use lib.Pow.{pow-add, pow_pos}
use lib.Ieee.{Float, nan, inf, fin, Format, binary32, binary64, prec, low}
use lib.Ieee.Exact.{HasValue}
use lib.Ieee.Positive.{positive, positive_of_value}
use Rattle.float.specs.Numbers.{is_zero}
use Rattle.float.specs.Ops.{ops}
use Rattle.float.proofs.Value.{rescale}
use Rattle.root.specs.Root.{root_of}
use Rattle.root.proofs.Square.{square}
use Rattle.rounding.specs.Exact.{signed}
use Rattle.rounding.specs.Dyadic.{Dyad, Room}
use Rattle.rounding.proofs.Dyadic.{pow_eq, dyad_as, dyad_div}
use Rattle.rounding.proofs.Value.{known, positive_value}
use Rattle.rounding.proofs.Whole.{one_dyad}
use Rattle.green_lagrange.proofs.Vector.{one, none}

-- numbers this small have room in either format
pub tiny : (f : Format) → 4096 < 2 ^ prec f
tiny binary32 = lit≤ tt
tiny binary64 = lit≤ tt

module _ (f : Format) where
  open ops f use {◌⊘◌, one as 1#}

  infixl 80 ◌⊘◌
  pub power : (i : ℕ) {x : Float} → Dyad f x (low f) (signed false (2 ^ i)) (2 ^ i) → Dyad f x (low f + i) one 1
  power i a = dyad_as a (rw (pow-add 2 (low f) i) (omega arith)) (lit≤ tt)

  pub nothing : {x : Float} {j B : ℕ} → Dyad f x j none B → (k C : ℕ) → Dyad f x k none C
  nothing a k C = dyad_as a (omega arith) (omega arith)

  has : (x : Float) (g C : ℕ) → Dyad f x g one C → HasValue x false (2 ^ g) (2 ^ low f)
  has x g C a = let v = positive_value f x (2 ^ g) (pow_pos g) (omega (arith, a.is)) in rw (v.0, v.1) at (known f x a.number).has

  -- the root of the square of 2 ^ g units is 2 ^ g units
  pub root_power : {x r : Float} {k g C D : ℕ} → g + g ≡ k + low f → Dyad f x k one C → Dyad f r g one D → root_of f x ≡ r
  root_power {x} {r} {k} {g} {C} {D} e a b =
      let l = pow_pos (low f) in
      square f x r (2 ^ g) (2 ^ low f) a.number.fit b.number.fit (pow_pos g) l (has r g D b)
      (rescale x false (2 ^ k) (2 ^ low f) (2 ^ g * 2 ^ g) (2 ^ low f * 2 ^ low f) l (go (2 ^ g * 2 ^ g) (2 ^ k) (2 ^ low f) (pow_eq g g k (low f) e)) (has x k C a))
    where
      go : (p q l : ℕ) → p ≡ q * l → p * l ≡ q * (l * l)
      go p q l h = rw h (omega arith)

  -- 1 over 2 ^ g units is 2 ^ k units
  pub inverse : {y : Float} {g C : ℕ} (k : ℕ) → low f + low f ≡ k + g → Room f k → Dyad f y g one C → Dyad f (1# ⊘ y) k one 1
  inverse k e room a = dyad_div f k e room (one_dyad f) a (omega (arith, tiny f))

  pub not_zero : {x : Float} {g C : ℕ} → Dyad f x g one C → is_zero x ≡ false
  not_zero {x} {g} {C} a = go x (positive_of_value x _ _ (has x g C a) (pow_pos g))
    where
      go : (v : Float) → T (positive v) → is_zero v ≡ false
      go nan t = refl
      go (inf s) t = refl
      go (fin true zero e) t = absurd t
      go (fin false zero e) t = absurd t
      go (fin s (suc m) e) t = refl
