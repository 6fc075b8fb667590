-- When a kernel or a skin behind the border gives 7: the numbers that it reads are finite, and the word is for no stiffness, or for Young's and that one is none that a sheet can have. Masses never
-- give it (`never_7` of mitc_tri3).
use mathlib.Core.Path.{◌≡◌}
use mathlib.Core.Bool.{true, ◌&&◌}
use mathlib.Core.List.{List}
use mathlib.Core.Logic.{◌↔◌}
use Prim.Native.Nat.{ℕ, ◌<◌}
use lib.Ieee.{Float, Format}
use lib.Ieee.Scale.{finite}
use lib.ListN.{length, get_or}
use Rattle.refusal.specs.Refusal.{bad_stiffness, Clear}
use Rattle.refusal.specs.Answers.{energy_of}
use Rattle.material.specs.Material.{material_of, BadWord}
use Rattle.material.proofs.Words.{word_finite, word_bad, word_seven}
use Rattle.corners.specs.Plane as plane
use Rattle.corners.specs.Space as space
use Rattle.places.specs.Space.{corners_at}
use Rattle.stvk_tri3.specs.Stvk as stvk
use Rattle.mitc_tri3.specs.Plate as plate
use Rattle.skin.specs.Skin.{early_of}
use Rattle.skin.proofs.Stiffness as skin
use Rattle.del_fem.specs.Exports.{IsStvkExport, IsPlateExport, IsSkinExport}

module _ (f : Format) (s : ℕ) (density thickness a b : Float) {r : ℕ} where
  module _ {values : List Float} where
    pub stvk_refused_7_exactly : (p0 p1 : List (List Float)) → IsStvkExport f p0 p1 (material_of f s density thickness a b) r values
        → r ≡ bad_stiffness ↔ ((space.is_finite_of (space.corners_of p0) && space.is_finite_of (space.corners_of p1) && (finite a && finite b) ≡ true) × BadWord f s a b)
    unfolding stvk.stvk_of stvk.tests_of energy_of
    stvk_refused_7_exactly p0 p1 is = rw is.0 (word_seven f s a b _ _ _ _)

    pub plate_refused_7_exactly : (p u : List (List Float)) → IsPlateExport f p u (material_of f s density thickness a b) r values
        → r ≡ bad_stiffness ↔ ((plane.is_finite_of (plane.corners_of p) && space.is_finite_of (space.corners_of u) && finite thickness && (finite a && finite b) ≡ true) × BadWord f s a b)
    unfolding plate.plate_of plate.tests_of energy_of
    plate_refused_7_exactly p u is = rw is.0 (word_seven f s a b _ _ _ _)

  -- of a skin it is the first triangle's
  pub skin_refused_7_exactly : (vtx2ini vtx2def : List Float) (tri2vtx : List ℕ) (before : List Float) {place : ℕ} {w : Float} {after : List Float}
      → IsSkinExport f vtx2ini vtx2def tri2vtx (material_of f s density thickness a b) before r place w after
      → let i0 = get_or tri2vtx 0 0 in let i1 = get_or tri2vtx 1 0 in let i2 = get_or tri2vtx 2 0 in r ≡ bad_stiffness ↔ (Clear (early_of (length vtx2ini) (length vtx2def) tri2vtx (length before))
      × ((2 < length tri2vtx) × (space.is_finite_of (corners_at vtx2ini i0 i1 i2) && space.is_finite_of (corners_at vtx2def i0 i1 i2) && (finite a && finite b) ≡ true) × BadWord f s a b))
  skin_refused_7_exactly vtx2ini vtx2def tri2vtx before is =
      let seven = skin.refused_7_exactly f vtx2ini vtx2def tri2vtx (material_of f s density thickness a b) before is in (
        (λ e. let h = seven.0 e in (h.0, (h.1.0, rw (word_finite f s a b) at h.1.1, (word_bad f s a b).0 h.1.2))),
        λ h. seven.1 (h.0, (h.1.0, rw (word_finite f s a b) h.1.1, (word_bad f s a b).1 h.1.2)),
      )
