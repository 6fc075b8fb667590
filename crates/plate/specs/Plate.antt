-- The numbers of `w_dw_ddw_plate_bending` (01-scope 5.2): the source's expressions, in its order and under its names. An index 0, 1, 2 of the source is x, y, z here.
use Rattle.std.specs.Prelude.{List, [], ◌∷◌, ℕ, ◌+◌, ◌*◌, Float}
use Rattle.std.specs.Float.{Format}
use Rattle.float.specs.Lists.{◌!◌, ◌!!◌, each, fold, table}
use Rattle.float.specs.Ops.{ops}
use Rattle.del_geo_core.specs.CurveLinearCoords.{inverse_of}
use Rattle.del_geo_core.specs.Tri2.{area_of}
use Rattle.del_geo_core.specs.declared.curve_linear_coords.DualBasis.{DualBasis}
use Rattle.del_geo_core.specs.declared.mat3_row_major.Matrix3.{Matrix3}
use Rattle.del_geo_core.specs.Tri2.{Tri2}
use Rattle.del_geo_core.specs.declared.tri2.V2.{V2}
use Rattle.del_geo_core.specs.Tri3.{Tri3}
use Rattle.vec3.specs.declared.V3.{V3}
use Rattle.edges.specs.Edges.{plane_of, gu_gu_of}
use Rattle.plate_bending.specs.Bending as bending
use Rattle.plate_shear.specs.Shear as shear
use Rattle.plate.specs.declared.State.{State}

-- dstrain[k][ino][idof] for each k, where i is ino * 3 + idof
abbrev pub column3_of : (dstrain : List (List Float)) (i : ℕ) → V3
column3_of dstrain i = record { x = dstrain !! 0 ! i; y = dstrain !! 1 ! i; z = dstrain !! 2 ! i }

abbrev pub column2_of : (dstrain : List (List Float)) (i : ℕ) → V2
column2_of dstrain i = record { x = dstrain !! 0 ! i; y = dstrain !! 1 ! i }

module _ (f : Format) where
  open ops f use {◌⊕◌, ◌⊗◌, zero, half}

  infixl 75 ◌⊕◌
  infixl 80 ◌⊗◌
  -- covariant basis vectors: two edges and half the thickness
  unfoldable pub gd_of : (p : Tri2) (thk : Float) → Matrix3
  gd_of p thk = let plane = plane_of f p in record { x = plane.x; y = plane.y; z = record { x = zero; y = zero; z = half ⊗ thk } }

  unfoldable pub gu_of : (p : Tri2) (thk : Float) → DualBasis
  gu_of p thk = let gd = gd_of p thk in inverse_of f gd.x gd.y gd.z

  -- what the energy and its derivatives are made of
  unfoldable pub state_of : (p : Tri2) (u : Tri3) (thk lambda myu : Float) → State
  state_of p u thk lambda myu =
      let area = area_of f p.p0 p.p1 p.p2 in
      let gd = gd_of p thk in
      let gu = gu_of p thk in
      let gu_gu = gu_gu_of f gu in
      record {
        thk = thk;
        gd = gd;
        gu = gu;
        bending = bending.bending_of f gd gu_gu u area thk lambda myu;
        shear = shear.shear_of f gd gu_gu u area thk myu;
      }

  -- the loops' `+=`, for w and for each entry of dw and ddw: from +0, first the points t0 of bending, then the points (r, s) of shear
  unfoldable pub accumulated_of : (bend : Float → Float) (shears : Float → Float → Float) → Float
  accumulated_of bend shears =
      let bent = fold (λ x t0. x ⊕ bend t0) zero (bending.t0s f) in
      fold (λ x i. x ⊕ shears (shear.rs f ! i) (shear.ss f ! i)) bent (0 ∷ 1 ∷ 2 ∷ [])

  unfoldable pub w_of : State → Float
  w_of st = accumulated_of (λ t0. bending.w_of f st.bending t0) (λ r s. shear.w_of f st.shear r s)

  -- dw[ino][idof]
  unfoldable pub dw_of : State → List Float
  dw_of st = each 3 (λ ino. table 3 (λ idof.
      let i = ino * 3 + idof in
      accumulated_of
      (λ t0. bending.dw_of f st.bending t0 (column3_of (bending.dstrain_of f st.gd st.thk t0) i))
      (λ r s. shear.dw_of f st.shear r s (column2_of (shear.dstrain_of f st.gd st.thk r s) i))))

  -- ddw[ino][jno][idof * 3 + jdof]
  unfoldable pub ddw_of : State → List Float
  ddw_of st = each 3 (λ ino. each 3 (λ jno. each 3 (λ idof. table 3 (λ jdof.
      let i = ino * 3 + idof in
      let j = jno * 3 + jdof in
      accumulated_of
      (λ t0. let dstrain = bending.dstrain_of f st.gd st.thk t0 in bending.ddw_of f st.bending (column3_of dstrain i) (column3_of dstrain j))
      (λ r s. let dstrain = shear.dstrain_of f st.gd st.thk r s in shear.ddw_of f st.shear (column2_of dstrain i) (column2_of dstrain j))))))

  -- what the source returns: (w, dw, ddw)
  unfoldable pub w_dw_ddw_plate_bending_of : (p : Tri2) (u : Tri3) (thk lambda myu : Float) → Float × List Float × List Float
  w_dw_ddw_plate_bending_of p u thk lambda myu = let st = state_of p u thk lambda myu in (w_of st, dw_of st, ddw_of st)
