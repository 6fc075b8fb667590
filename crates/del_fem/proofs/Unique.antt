-- No second answer fits a statement of this crate: the number and the values are each equal to one thing. The roots', the masses' and the words' statements are their crates' own, and those of a mesh's
-- coordinates and names, and so are the laws that they have one answer; the skin's law is its crate's, taken apart. The counts and the place of a mesh file are the entries of one list.
use mathlib.Core.Path.{◌≡◌, ap}
use mathlib.Core.List.{List, [], ◌∷◌}
use Prim.Native.Nat.{ℕ}
use lib.Ieee.{Float, Format}
use Rattle.float.proofs.Unique.{only}
use Rattle.values.proofs.Unique.{same}
use Rattle.material.specs.declared.Material.{Material}
use Rattle.skin.specs.declared.SkinGiven.{SkinGiven}
use Rattle.skin.proofs.SkinAnswer.{unique}
use Rattle.std.specs.Prelude.{Result}
use Rattle.mesh.specs.declared.Mesh.{Mesh}
use Rattle.del_fem.specs.Exports.{IsBendingExport, IsStrainExport, IsGreenLagrangeExport, IsStvkExport, IsPlateExport, IsSkinExport}
use Rattle.del_fem.specs.Exports.{IsMeshExport, points_at, cells_at, GivesBlock, IsPointsExport, IsCellsExport, version}

pub version_number : {r q : ℕ} → r ≡ version → q ≡ version → r ≡ q
version_number = only

module _ {r q : ℕ} {v w : List Float} where
  module _ (f : Format) where
    pub bending : (p_ini p_def : List (List Float)) → IsBendingExport f p_ini p_def r v → IsBendingExport f p_ini p_def q w → (r ≡ q) × (v ≡ w)
    bending p_ini p_def = same

    pub strain : (p_ini p_def : List (List Float)) → IsStrainExport f p_ini p_def r v → IsStrainExport f p_ini p_def q w → (r ≡ q) × (v ≡ w)
    strain p_ini p_def = same

    pub green_lagrange_lem : (p_ini p_def : List (List Float)) → IsGreenLagrangeExport f p_ini p_def r v → IsGreenLagrangeExport f p_ini p_def q w → (r ≡ q) × (v ≡ w)
    green_lagrange_lem p_ini p_def = same

    pub stvk : (p0 p1 : List (List Float)) (m : Material) → IsStvkExport f p0 p1 m r v → IsStvkExport f p0 p1 m q w → (r ≡ q) × (v ≡ w)
    stvk p0 p1 m = same

    pub plate : (p u : List (List Float)) (m : Material) → IsPlateExport f p u m r v → IsPlateExport f p u m q w → (r ≡ q) × (v ≡ w)
    plate p u m = same

    pub skin : (vtx2ini vtx2def : List Float) (tri2vtx : List ℕ) (m : Material) (before : List Float) {place spot : ℕ} {x y : Float}
        → IsSkinExport f vtx2ini vtx2def tri2vtx m before r place x v → IsSkinExport f vtx2ini vtx2def tri2vtx m before q spot y w
        → (r ≡ q) × (place ≡ spot) × (x ≡ y) × (v ≡ w)
    skin vtx2ini vtx2def tri2vtx m before a b =
        let one = unique f vtx2ini vtx2def tri2vtx m before a b in
        (ap (λ (s : SkinGiven). s.number) one.0, ap (λ (s : SkinGiven). s.place) one.0, ap (λ (s : SkinGiven). s.w) one.0, one.1)

entries : {a b c x y z : ℕ} → a ∷ b ∷ c ∷ [] ≡ x ∷ y ∷ z ∷ [] → (a ≡ x) × (b ≡ y) × (c ≡ z)
entries e = (cc, cc, cc)

module _ (file : List ℕ) {r q place spot : ℕ} where
  pub mesh : {n m k l : ℕ} → IsMeshExport file r n m place → IsMeshExport file q k l spot → (r ≡ q) × (n ≡ k) × (m ≡ l) × (place ≡ spot)
  mesh a b = let (e, g, h) = entries (only a.1 b.1) in (only a.0 b.0, e, g, h)

  block : (at : Result Mesh ℕ → ℕ × ℕ) {size long : ℕ} → GivesBlock at file r place size → GivesBlock at file q spot long → (r ≡ q) × (place ≡ spot) × (size ≡ long)
  block at a b = (only a.0 b.0, only a.1 b.1, only a.2 b.2)

  pub points : {size long : ℕ} → IsPointsExport file r place size → IsPointsExport file q spot long → (r ≡ q) × (place ≡ spot) × (size ≡ long)
  points = block points_at

  pub cells : {size long : ℕ} → IsCellsExport file r place size → IsCellsExport file q spot long → (r ≡ q) × (place ≡ spot) × (size ≡ long)
  cells = block cells_at
