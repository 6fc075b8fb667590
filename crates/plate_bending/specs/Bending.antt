-- The first block of `w_dw_ddw_plate_bending` (01-scope 5.2; mitc_tri3.rs, its first { .. }): bending, though the source heads it transverse shear. An index 0, 1, 2 of the
-- source is x, y, z here; strain and stress are in the order rr, ss, rs.
use Rattle.std.specs.Prelude.{List, [], ◌∷◌, Float}
use Rattle.std.specs.Float.{Format}
use Rattle.std.specs.Float.Ieee.{neg}
use Rattle.float.specs.Ops.{ops}
use Rattle.root.specs.Root.{root_of}
use Rattle.del_geo_core.specs.Mat3RowMajor.{mult_vec_of}
use Rattle.vec3.specs.Vec3.{dot_of}
use Rattle.del_geo_core.specs.declared.mat3_row_major.Matrix3.{Matrix3}
use Rattle.del_geo_core.specs.Tri3.{Tri3}
use Rattle.vec3.specs.declared.V3.{V3}
use Rattle.edges.specs.declared.GuGu.{GuGu}
use Rattle.plate_bending.specs.declared.Bending.{Bending}

module _ (f : Format) where
  open ops f use {◌⊕◌, ◌⊖◌, ◌⊗◌, ◌⊘◌, zero, quarter, half, one, two, three, four}

  infixl 75 ◌⊕◌ ◌⊖◌
  infixl 80 ◌⊗◌ ◌⊘◌
  abbrev pub coeffa_of : (gu_gu : GuGu) (lambda myu : Float) → Matrix3
  coeffa_of gu_gu lambda myu = record {
    x = record {
      x = lambda ⊗ gu_gu.rr ⊗ gu_gu.rr ⊕ two ⊗ myu ⊗ (gu_gu.rr ⊗ gu_gu.rr);
      y = lambda ⊗ gu_gu.rr ⊗ gu_gu.ss ⊕ two ⊗ myu ⊗ (gu_gu.sr ⊗ gu_gu.sr);
      z = lambda ⊗ gu_gu.rr ⊗ gu_gu.sr ⊕ two ⊗ myu ⊗ (gu_gu.rr ⊗ gu_gu.sr);
    };
    y = record {
      x = lambda ⊗ gu_gu.ss ⊗ gu_gu.rr ⊕ two ⊗ myu ⊗ (gu_gu.sr ⊗ gu_gu.sr);
      y = lambda ⊗ gu_gu.ss ⊗ gu_gu.ss ⊕ two ⊗ myu ⊗ (gu_gu.ss ⊗ gu_gu.ss);
      z = lambda ⊗ gu_gu.ss ⊗ gu_gu.sr ⊕ two ⊗ myu ⊗ (gu_gu.ss ⊗ gu_gu.sr);
    };
    z = record {
      x = lambda ⊗ gu_gu.sr ⊗ gu_gu.rr ⊕ two ⊗ myu ⊗ (gu_gu.rr ⊗ gu_gu.sr);
      y = lambda ⊗ gu_gu.sr ⊗ gu_gu.ss ⊕ two ⊗ myu ⊗ (gu_gu.sr ⊗ gu_gu.ss);
      z = lambda ⊗ gu_gu.sr ⊗ gu_gu.sr ⊕ myu ⊗ (gu_gu.rr ⊗ gu_gu.ss ⊕ gu_gu.sr ⊗ gu_gu.sr);
    };
  }

  abbrev pub coeffb_of : (coeffa : Matrix3) → Matrix3
  coeffb_of coeffa = record {
    x = record { x = coeffa.x.x; y = coeffa.x.y; z = two ⊗ coeffa.x.z };
    y = record { x = coeffa.y.x; y = coeffa.y.y; z = two ⊗ coeffa.y.z };
    z = record { x = two ⊗ coeffa.z.x; y = two ⊗ coeffa.z.y; z = four ⊗ coeffa.z.z };
  }

  abbrev pub de_dt_of : (gd : Matrix3) (u : Tri3) (thk : Float) → V3
  de_dt_of gd u thk =
      let de_rr_dt = (gd.x.x ⊗ (u.p1.z ⊖ u.p0.z) ⊖ gd.x.y ⊗ (u.p1.y ⊖ u.p0.y)) ⊗ half ⊗ thk in
      let de_ss_dt = (gd.y.x ⊗ (u.p2.z ⊖ u.p0.z) ⊖ gd.y.y ⊗ (u.p2.y ⊖ u.p0.y)) ⊗ half ⊗ thk in
      let de_rs_dt =
      (gd.x.x ⊗ (u.p2.z ⊖ u.p0.z) ⊖ gd.x.y ⊗ (u.p2.y ⊖ u.p0.y) ⊕ gd.y.x ⊗ (u.p1.z ⊖ u.p0.z) ⊖ gd.y.y ⊗ (u.p1.y ⊖ u.p0.y))
      ⊗ quarter ⊗ thk in
      record { x = de_rr_dt; y = de_ss_dt; z = de_rs_dt }

  -- what the block has before its loop
  unfoldable pub bending_of : (gd : Matrix3) (gu_gu : GuGu) (u : Tri3) (area thk lambda myu : Float) → Bending
  bending_of gd gu_gu u area thk lambda myu =
      record { w_integration = area ⊗ thk ⊘ two; coeffb = coeffb_of (coeffa_of gu_gu lambda myu); de_dt = de_dt_of gd u thk }

  -- t0 at the two points of integration
  unfoldable pub t0s : List Float
  t0s = neg one ⊘ root_of f three ∷ one ⊘ root_of f three ∷ []

  abbrev pub strain_of : (bending : Bending) (t0 : Float) → V3
  strain_of bending t0 = record { x = t0 ⊗ bending.de_dt.x; y = t0 ⊗ bending.de_dt.y; z = t0 ⊗ bending.de_dt.z }

  -- dstrain[k], each with its nine places ino * 3 + idof in a row
  unfoldable pub dstrain_of : (gd : Matrix3) (thk t0 : Float) → List (List Float)
  dstrain_of gd thk t0 =
      (zero
      ∷ gd.x.y ⊗ half ⊗ thk ⊗ t0
      ∷ neg gd.x.x ⊗ half ⊗ thk ⊗ t0
      ∷ zero
      ∷ neg gd.x.y ⊗ half ⊗ thk ⊗ t0
      ∷ gd.x.x ⊗ half ⊗ thk ⊗ t0
      ∷ zero
      ∷ zero
      ∷ zero
      ∷ [])
      ∷ (zero
      ∷ gd.y.y ⊗ half ⊗ thk ⊗ t0
      ∷ neg gd.y.x ⊗ half ⊗ thk ⊗ t0
      ∷ zero
      ∷ zero
      ∷ zero
      ∷ zero
      ∷ neg gd.y.y ⊗ half ⊗ thk ⊗ t0
      ∷ gd.y.x ⊗ half ⊗ thk ⊗ t0
      ∷ [])
      ∷ (zero
      ∷ (gd.x.y ⊕ gd.y.y) ⊗ quarter ⊗ thk ⊗ t0
      ∷ neg (gd.x.x ⊕ gd.y.x) ⊗ quarter ⊗ thk ⊗ t0
      ∷ zero
      ∷ neg gd.y.y ⊗ quarter ⊗ thk ⊗ t0
      ∷ gd.y.x ⊗ quarter ⊗ thk ⊗ t0
      ∷ zero
      ∷ neg gd.x.y ⊗ quarter ⊗ thk ⊗ t0
      ∷ gd.x.x ⊗ quarter ⊗ thk ⊗ t0
      ∷ [])
      ∷ []

  -- what the point t0 adds to w
  unfoldable pub w_of : (bending : Bending) (t0 : Float) → Float
  w_of bending t0 =
      let strain = strain_of bending t0 in
      let stress = mult_vec_of f bending.coeffb strain in
      bending.w_integration ⊗ half ⊗ dot_of f strain stress

  -- to the entry of dw whose dstrain[0], dstrain[1], dstrain[2] are d
  unfoldable pub dw_of : (bending : Bending) (t0 : Float) (d : V3) → Float
  dw_of bending t0 d = let stress = mult_vec_of f bending.coeffb (strain_of bending t0) in bending.w_integration ⊗ dot_of f stress d

  abbrev dtmp_of : (coeffb : Matrix3) (di dj : V3) → Float
  dtmp_of coeffb di dj =
      di.x ⊗ coeffb.x.x ⊗ dj.x
      ⊕ di.x ⊗ coeffb.x.y ⊗ dj.y
      ⊕ di.x ⊗ coeffb.x.z ⊗ dj.z
      ⊕ di.y ⊗ coeffb.y.x ⊗ dj.x
      ⊕ di.y ⊗ coeffb.y.y ⊗ dj.y
      ⊕ di.y ⊗ coeffb.y.z ⊗ dj.z
      ⊕ di.z ⊗ coeffb.z.x ⊗ dj.x
      ⊕ di.z ⊗ coeffb.z.y ⊗ dj.y
      ⊕ di.z ⊗ coeffb.z.z ⊗ dj.z

  -- to the entry of ddw whose dstrain by (ino, idof) is di and by (jno, jdof) dj
  unfoldable pub ddw_of : (bending : Bending) (di dj : V3) → Float
  ddw_of bending di dj = bending.w_integration ⊗ dtmp_of bending.coeffb di dj
