-- No second answer fits the statement of `masses`: it is that of `mass_lumped_plate_bending`, on the lists that the blocks stand for.
use mathlib.Core.Path.{◌≡◌}
use mathlib.Core.List.{List}
use Prim.Native.Nat.{ℕ}
use lib.Ieee.{Float, binary64}
use Rattle.material.specs.declared.Material.{Material}
use Rattle.mitc_tri3.specs.Masses.{IsMasses}
use Rattle.mitc_tri3.proofs.MassesAnswer.{unique}
use Rattle.mesh_masses.specs.Blocks.{names_in, xy_in}

pub masses : (points cells : List ℕ) (material : Material) (before : List Float) {r q : ℕ} {after left : List Float}
    → IsMasses binary64 (names_in cells) (xy_in points) material before r after → IsMasses binary64 (names_in cells) (xy_in points) material before q left → (r ≡ q) × (after ≡ left)
masses points cells material before = unique binary64 (names_in cells) (xy_in points) material before
