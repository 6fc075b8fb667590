-- What `give` gives for a kernel's answer is what is given for it (01-scope 2.1): the parts of +0 are together the places of +0.
use mathlib.Core.List.{List, ◌∷◌, ◌++◌}
use Prim.Native.Nat.{ℕ}
use lib.Ieee.{Float, binary64}
use Rattle.std.specs.Prelude.{Result, Ok, Err}
use Rattle.refusal.specs.Answers.{energy_given}
use Rattle.refusal.specs.declared.Energy.{Energy}
use Rattle.refusal.specs.declared.Refusal.{Refusal}
use Rattle.quadratic_bending.specs.Bending.{bending_given}
use Rattle.quadratic_bending.specs.declared.Bending.{Bending}
use Rattle.strain.specs.declared.Values.{Values}
use Rattle.stvk_tri3.specs.Strain.{strain_given}
use Rattle.values.specs.Values.{GivesBending, GivesStrain, GivesEnergy, IsGiven}

pub bending : (answer : Result Bending Refusal) {r : ℕ} {values : List Float} → IsGiven 39 (λ b. b.w ++ b.dwdp) answer r values → GivesBending (bending_given binary64 answer) r values
bending (Ok b) g = g
bending (Err refusal) g = g

pub strain : (answer : Result Values Refusal) {r : ℕ} {values : List Float} → IsGiven 30 (λ s. s.w ++ s.dw) answer r values → GivesStrain (strain_given binary64 answer) r values
strain (Ok s) g = g
strain (Err refusal) g = g

pub energy : (answer : Result Energy Refusal) {r : ℕ} {values : List Float} → IsGiven 91 (λ e. e.w ∷ e.dw ++ e.ddw) answer r values → GivesEnergy (energy_given binary64 answer) r values
energy (Ok e) g = g
energy (Err refusal) g = g
