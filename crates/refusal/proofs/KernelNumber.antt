-- When a kernel gives which number, test by test: the ladder's law on a kernel's rows.
use mathlib.Core.Path.{◌≡◌, refl}
use mathlib.Core.Bool.{true, false}
use mathlib.Core.Logic.{◌↔◌}
use Prim.Native.Nat.{◌<◌}
use native.Mathlib.Omega.{arith}
use Rattle.float.specs.Lists.{every}
use Rattle.refusal.specs.Refusal.{accepted, bad_name, turned, bad_stiffness, kernel_rows, kernel_number, Exactly}
use Rattle.refusal.specs.declared.Tests.{Tests}
use Rattle.refusal.proofs.Ladder.{exactly, alone_exactly, first_above}

pub kernel_exactly : (t : Tests) → Exactly (kernel_number t) (kernel_rows t)
unfolding kernel_number every
kernel_exactly t = exactly (kernel_rows t) refl

-- 7 exactly where the numbers are finite and the stiffness is bad
pub seven_exactly : (t : Tests) → kernel_number t ≡ bad_stiffness ↔ ((t.bad_input ≡ false) × (t.bad_stiffness ≡ true))
unfolding kernel_number every
seven_exactly t = alone_exactly bad_stiffness (λ (e : bad_stiffness ≡ accepted). omega arith) (kernel_rows t) refl

-- 6 exactly where they are, the stiffness is none of the bad ones, and the triangle turns right
pub six_exactly : (t : Tests) → kernel_number t ≡ turned ↔ ((t.bad_input ≡ false) × ((t.bad_stiffness ≡ false) × (t.turned ≡ true)))
unfolding kernel_number every
six_exactly t = alone_exactly turned (λ (e : turned ≡ accepted). omega arith) (kernel_rows t) refl

-- a kernel that refuses gives none of the numbers of lengths and names
pub kernel_above : (t : Tests) → (kernel_number t ≡ accepted → ⊥) → bad_name < kernel_number t
unfolding kernel_number every
kernel_above t = first_above bad_name (kernel_rows t) refl
