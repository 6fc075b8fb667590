-- The total and each place of the finished gradient are sums in the list's order from +0: of every triangle's energy, and of what the triangles that name its vertex give it.
use mathlib.Core.Path.{◌≡◌, ◌∙◌}
use mathlib.Core.Bool.{true, not}
use mathlib.Core.List.{List}
use Prim.Native.Nat.{ℕ, ◌+◌, ◌*◌, ◌/◌, ◌<◌}
use lib.Dec.{eqb}
use lib.Ieee.{Float, Format}
use borrow.Author.Tests.{not-false}
use Rattle.float.specs.Lists.{◌!◌, every, fold, map_threes, total}
use Rattle.float.specs.Ops.{ops}
use Rattle.float.proofs.Fold.{fold_map}
use Rattle.refusal.specs.Refusal.{accepted}
use Rattle.places.specs.Places.{component}
use Rattle.places.specs.Vertex.{given_to}
use Rattle.places.proofs.Vertex.{added_holds, unnamed}
use Rattle.skin.specs.Sums.{Kernel, part_of, add_energy, add_gradient, energy_of, gradient_of}
use Rattle.skin.specs.declared.SkinGiven.{SkinGiven}
use Rattle.skin.specs.Skin.{IsSkinOver}
use Rattle.skin.proofs.SkinAnswer.{numbers_exactly, accepted_sums, sized}

module _ (f : Format) (answer : Kernel) (ini def : ℕ) (tri2vtx : List ℕ) (before : List Float) {r : SkinGiven} {after : List Float}
    (is : IsSkinOver f answer ini def tri2vtx before r after) (e : r.number ≡ accepted) where
  -- THE theorem of the total
  pub energy_holds : r.w ≡ total f (λ e. e.w) (map_threes answer tri2vtx)
  unfolding energy_of add_energy
  energy_holds = (accepted_sums f answer ini def tri2vtx before is e).0 ∙ fold_map answer _ _ tri2vtx

  -- THE theorem of a vertex's gradient
  pub vertex_holds : (v k : ℕ) → v < ini / 3 → k < 3 → after ! (v * 3 + k) ≡ total f (component k) (given_to (part_of answer) v tri2vtx)
  unfolding gradient_of add_gradient
  vertex_holds v k h k3 =
      let clear = ((numbers_exactly f answer ini def tri2vtx before is).accepted_exactly.0 e).0 in
      rw (accepted_sums f answer ini def tri2vtx before is e).1
      (added_holds f (part_of answer) (λ x. x) before tri2vtx (ini / 3) (sized _ _ _ _ clear.0).1 (not-false _ clear.1.0) v k h k3)

  -- a point without a name holds +0
  pub unnamed_holds : (v k : ℕ) → v < ini / 3 → k < 3 → every (λ i. not (eqb i v)) tri2vtx ≡ true → after ! (v * 3 + k) ≡ (ops f).zero
  unfolding fold
  unnamed_holds v k h k3 n = vertex_holds v k h k3 ∙ rw (unnamed (part_of answer) v tri2vtx n)
