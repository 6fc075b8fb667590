-- The second block of `w_dw_ddw_plate_bending` (01-scope 5.2; mitc_tri3.rs, its second { .. }): transverse shear. Strain and stress are in the order rt, st.
use Rattle.std.specs.Prelude.{List, [], ◌∷◌, ◌+◌, ◌*◌, Float}
use Rattle.std.specs.Float.{Format}
use Rattle.std.specs.Float.Ieee.{neg}
use Rattle.float.specs.Lists.{◌!◌, each, table}
use Rattle.float.specs.Ops.{ops}
use Rattle.del_geo_core.specs.declared.mat3_row_major.Matrix3.{Matrix3}
use Rattle.del_geo_core.specs.declared.tri2.V2.{V2}
use Rattle.del_geo_core.specs.Tri3.{Tri3}
use Rattle.edges.specs.declared.GuGu.{GuGu}
use Rattle.plate_shear.specs.declared.Matrix2.{Matrix2}
use Rattle.plate_shear.specs.declared.Shear.{Shear}

module _ (f : Format) where
  open ops f use {◌⊕◌, ◌⊖◌, ◌⊗◌, ◌⊘◌, zero, quarter, half, two, three, four}

  infixl 75 ◌⊕◌ ◌⊖◌
  infixl 80 ◌⊗◌ ◌⊘◌
  abbrev pub coeffa_of : (gu_gu : GuGu) (myu : Float) → Matrix2
  coeffa_of gu_gu myu = record {
    x = record { x = myu ⊗ gu_gu.rr ⊗ gu_gu.tt; y = myu ⊗ gu_gu.sr ⊗ gu_gu.tt };
    y = record { x = myu ⊗ gu_gu.sr ⊗ gu_gu.tt; y = myu ⊗ gu_gu.ss ⊗ gu_gu.tt };
  }

  abbrev pub coeffb_of : (coeffa : Matrix2) → Matrix2
  coeffb_of coeffa = record {
    x = record { x = four ⊗ coeffa.x.x; y = two ⊗ coeffa.x.y };
    y = record { x = two ⊗ coeffa.y.x; y = four ⊗ coeffa.y.y };
  }

  -- what the block has before its loop
  unfoldable pub shear_of : (gd : Matrix3) (gu_gu : GuGu) (u : Tri3) (area thk myu : Float) → Shear
  shear_of gd gu_gu u area thk myu =
      let e_rt01 = half ⊗ thk ⊗ (u.p1.x ⊖ u.p0.x ⊕ half ⊗ gd.x.x ⊗ (u.p0.z ⊕ u.p1.z) ⊖ half ⊗ gd.x.y ⊗ (u.p0.y ⊕ u.p1.y)) in
      let e_rt12 = half ⊗ thk ⊗ (u.p1.x ⊖ u.p0.x ⊕ half ⊗ gd.x.x ⊗ (u.p1.z ⊕ u.p2.z) ⊖ half ⊗ gd.x.y ⊗ (u.p1.y ⊕ u.p2.y)) in
      let e_st12 = half ⊗ thk ⊗ (u.p2.x ⊖ u.p0.x ⊕ half ⊗ gd.y.x ⊗ (u.p1.z ⊕ u.p2.z) ⊖ half ⊗ gd.y.y ⊗ (u.p1.y ⊕ u.p2.y)) in
      let e_st20 = half ⊗ thk ⊗ (u.p2.x ⊖ u.p0.x ⊕ half ⊗ gd.y.x ⊗ (u.p2.z ⊕ u.p0.z) ⊖ half ⊗ gd.y.y ⊗ (u.p2.y ⊕ u.p0.y)) in
      record {
        w_integration = area ⊗ thk ⊘ three;
        coeffb = coeffb_of (coeffa_of gu_gu myu);
        e_rt_01 = e_rt01;
        e_st_20 = e_st20;
        coeff_e_rt = (e_rt12 ⊖ e_rt01) ⊖ (e_st12 ⊖ e_st20);
      }

  -- pos_integration: the three midpoints (r, s) of the edges
  unfoldable pub rs : List Float
  rs = half ∷ half ∷ zero ∷ []

  unfoldable pub ss : List Float
  ss = zero ∷ half ∷ half ∷ []

  abbrev pub strain_of : (shear : Shear) (r s : Float) → V2
  strain_of shear r s = record { x = shear.e_rt_01 ⊕ shear.coeff_e_rt ⊗ s; y = shear.e_st_20 ⊖ shear.coeff_e_rt ⊗ r }

  abbrev pub stress_of : (coeffb : Matrix2) (strain : V2) → V2
  stress_of coeffb strain = record {
    x = coeffb.x.x ⊗ strain.x ⊕ coeffb.x.y ⊗ strain.y;
    y = coeffb.y.x ⊗ strain.x ⊕ coeffb.y.y ⊗ strain.y;
  }

  -- de_rt_01, de_st_20 and dcoeff_e_rt, each with its nine places ino * 3 + idof in a row
  abbrev pub de_rt_01_of : (gd : Matrix3) (thk : Float) → List Float
  de_rt_01_of gd thk =
      neg half ⊗ thk
      ∷ neg quarter ⊗ thk ⊗ gd.x.y
      ∷ quarter ⊗ thk ⊗ gd.x.x
      ∷ half ⊗ thk
      ∷ neg quarter ⊗ thk ⊗ gd.x.y
      ∷ quarter ⊗ thk ⊗ gd.x.x
      ∷ zero
      ∷ zero
      ∷ zero
      ∷ []

  abbrev pub de_st_20_of : (gd : Matrix3) (thk : Float) → List Float
  de_st_20_of gd thk =
      neg half ⊗ thk
      ∷ neg quarter ⊗ thk ⊗ gd.y.y
      ∷ quarter ⊗ thk ⊗ gd.y.x
      ∷ zero
      ∷ zero
      ∷ zero
      ∷ half ⊗ thk
      ∷ neg quarter ⊗ thk ⊗ gd.y.y
      ∷ quarter ⊗ thk ⊗ gd.y.x
      ∷ []

  abbrev pub dcoeff_e_rt_of : (gd : Matrix3) (thk : Float) → List Float
  dcoeff_e_rt_of gd thk =
      zero
      ∷ quarter ⊗ thk ⊗ gd.x.y ⊖ quarter ⊗ thk ⊗ gd.y.y
      ∷ neg quarter ⊗ thk ⊗ gd.x.x ⊕ quarter ⊗ thk ⊗ gd.y.x
      ∷ zero
      ∷ quarter ⊗ thk ⊗ gd.y.y
      ∷ neg quarter ⊗ thk ⊗ gd.y.x
      ∷ zero
      ∷ neg quarter ⊗ thk ⊗ gd.x.y
      ∷ quarter ⊗ thk ⊗ gd.x.x
      ∷ []

  -- dstrain[k], each with its nine places ino * 3 + idof in a row
  unfoldable pub dstrain_of : (gd : Matrix3) (thk r s : Float) → List (List Float)
  dstrain_of gd thk r s =
      let de_rt01 = de_rt_01_of gd thk in
      let de_st20 = de_st_20_of gd thk in
      let dcoeff_e_rt = dcoeff_e_rt_of gd thk in
      each 3 (λ ino. table 3 (λ idof. let i = ino * 3 + idof in de_rt01 ! i ⊕ dcoeff_e_rt ! i ⊗ s))
      ∷ each 3 (λ ino. table 3 (λ idof. let i = ino * 3 + idof in de_st20 ! i ⊖ dcoeff_e_rt ! i ⊗ r))
      ∷ []

  -- what the point (r, s) adds to w
  unfoldable pub w_of : (shear : Shear) (r s : Float) → Float
  w_of shear r s =
      let strain = strain_of shear r s in
      let stress = stress_of shear.coeffb strain in
      shear.w_integration ⊗ half ⊗ (stress.x ⊗ strain.x ⊕ stress.y ⊗ strain.y)

  -- to the entry of dw whose dstrain[0], dstrain[1] are d
  unfoldable pub dw_of : (shear : Shear) (r s : Float) (d : V2) → Float
  dw_of shear r s d = let stress = stress_of shear.coeffb (strain_of shear r s) in shear.w_integration ⊗ (stress.x ⊗ d.x ⊕ stress.y ⊗ d.y)

  abbrev dtmp_of : (coeffb : Matrix2) (di dj : V2) → Float
  dtmp_of coeffb di dj =
      di.x ⊗ coeffb.x.x ⊗ dj.x
      ⊕ di.x ⊗ coeffb.x.y ⊗ dj.y
      ⊕ di.y ⊗ coeffb.y.x ⊗ dj.x
      ⊕ di.y ⊗ coeffb.y.y ⊗ dj.y

  -- to the entry of ddw whose dstrain by (ino, idof) is di and by (jno, jdof) dj
  unfoldable pub ddw_of : (shear : Shear) (di dj : V2) → Float
  ddw_of shear di dj = shear.w_integration ⊗ dtmp_of shear.coeffb di dj
