-- What a kernel's answers come to over a list of triangles (01-scope 5.8), whatever the kernel is: their numbers, and their energies and gradients, added from +0 in the list's order.
use Rattle.refusal.specs.Answers.{EnergyGiven}
use Rattle.std.specs.Prelude.{List, ℕ, Float, replicate}
use Rattle.std.specs.Float.{Format}
use Rattle.float.specs.Lists.{fold_threes, map_threes}
use Rattle.float.specs.Ops.{ops}
use Rattle.vec3.specs.declared.V3.{V3}
use Rattle.places.specs.Places.{add_triangle}
use Rattle.places.specs.Space.{point_at}

-- what a kernel answers for the triangle of three names
abbrev pub Kernel : Type 0
Kernel = (i0 i1 i2 : ℕ) → EnergyGiven

-- what the triangle's gradient gives the vertex at its corner c
abbrev pub part_of : (answer : Kernel) (c i0 i1 i2 : ℕ) → V3
part_of answer c i0 i1 i2 = point_at (answer i0 i1 i2).dw c

-- one for each triangle
abbrev pub numbers_of : (answer : Kernel) (tri2vtx : List ℕ) → List ℕ
numbers_of answer tri2vtx = map_threes (λ i0 i1 i2. (answer i0 i1 i2).number) tri2vtx

module _ (f : Format) (answer : Kernel) where
  open ops f use {◌⊕◌, zero}

  infixl 75 ◌⊕◌
  unfoldable pub add_energy : (w : Float) (i0 i1 i2 : ℕ) → Float
  add_energy w i0 i1 i2 = w ⊕ (answer i0 i1 i2).w

  unfoldable pub add_gradient : (vtx2dw : List Float) (i0 i1 i2 : ℕ) → List Float
  add_gradient vtx2dw i0 i1 i2 = add_triangle f vtx2dw i0 i1 i2 (part_of answer 0 i0 i1 i2) (part_of answer 1 i0 i1 i2) (part_of answer 2 i0 i1 i2)

  unfoldable pub energy_of : (tri2vtx : List ℕ) → Float
  energy_of tri2vtx = fold_threes add_energy zero tri2vtx

  unfoldable pub gradient_of : (tri2vtx : List ℕ) (places : ℕ) → List Float
  gradient_of tri2vtx places = fold_threes add_gradient (replicate places zero) tri2vtx
