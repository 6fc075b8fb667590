-- No second answer fits a statement of this crate: each is an equation with a definition.
use mathlib.Core.Path.{◌≡◌}
use mathlib.Core.Bool.{Bool}
use Prim.Native.Nat.{ℕ}
use lib.Ieee.{Float, Format}
use Rattle.float.proofs.Unique.{only}
use Rattle.refusal.specs.declared.Tests.{Tests}
use Rattle.material.specs.Material.{lame_of, tested_of, material_of, lame_material, young_material, stock_sheet}
use Rattle.material.specs.declared.LamePair.{LamePair}
use Rattle.material.specs.declared.Material.{Material}
use Rattle.material.specs.declared.Stiffness.{Stiffness}

pub lame : (f : Format) (stiffness : Stiffness) {r q : LamePair} → r ≡ lame_of f stiffness → q ≡ lame_of f stiffness → r ≡ q
lame f stiffness = only

pub tests : (f : Format) (stiffness : Stiffness) (others_finite turned zero_divisor bad_answer : Bool) {r q : Tests} → r ≡ tested_of f stiffness others_finite turned zero_divisor bad_answer
    → q ≡ tested_of f stiffness others_finite turned zero_divisor bad_answer → r ≡ q
tests f stiffness others_finite turned zero_divisor bad_answer = only

pub of_words : (f : Format) (s : ℕ) (density thickness a b : Float) {r q : Material} → r ≡ material_of f s density thickness a b → q ≡ material_of f s density thickness a b → r ≡ q
of_words f s density thickness a b = only

pub stock_sheet_lem : (f : Format) {r q : Material} → r ≡ stock_sheet f → q ≡ stock_sheet f → r ≡ q
stock_sheet_lem f = only

pub lame_material_lem : (density thickness lambda myu : Float) {r q : Material} → r ≡ lame_material density thickness lambda myu → q ≡ lame_material density thickness lambda myu → r ≡ q
lame_material_lem density thickness lambda myu = only

pub young_material_lem : (density thickness e v : Float) {r q : Material} → r ≡ young_material density thickness e v → q ≡ young_material density thickness e v → r ≡ q
young_material_lem density thickness e v = only
