-- No second answer fits a statement of this crate: the number and the values are each equal to one thing.
use mathlib.Core.Path.{◌≡◌}
use mathlib.Core.List.{List}
use Prim.Native.Nat.{ℕ}
use lib.Ieee.{Float}
use Rattle.std.specs.Prelude.{Result}
use Rattle.refusal.specs.Answers.{EnergyGiven}
use Rattle.refusal.specs.declared.Refusal.{Refusal}
use Rattle.float.proofs.Unique.{only}
use Rattle.quadratic_bending.specs.Bending.{BendingGiven}
use Rattle.stvk_tri3.specs.Strain.{StrainGiven}
use Rattle.values.specs.Values.{GivesBending, GivesStrain, GivesEnergy, IsGiven}

module _ {r q : ℕ} {v w : List Float} where
  pub same : {number : ℕ} {values : List Float} → (r ≡ number) × (v ≡ values) → (q ≡ number) × (w ≡ values) → (r ≡ q) × (v ≡ w)
  same a b = (only a.0 b.0, only a.1 b.1)

  pub bending : (a : BendingGiven) → GivesBending a r v → GivesBending a q w → (r ≡ q) × (v ≡ w)
  bending a = same

  pub strain : (a : StrainGiven) → GivesStrain a r v → GivesStrain a q w → (r ≡ q) × (v ≡ w)
  strain a = same

  pub energy : (a : EnergyGiven) → GivesEnergy a r v → GivesEnergy a q w → (r ≡ q) × (v ≡ w)
  energy a = same

  pub give : {A : Type 0} (n : ℕ) (flat : A → List Float) (answer : Result A Refusal) → IsGiven n flat answer r v → IsGiven n flat answer q w → (r ≡ q) × (v ≡ w)
  give n flat answer = same
