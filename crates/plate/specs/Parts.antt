-- What parts of the code give for which the definition has no name: all points at once, for one degree of freedom or a pair of them. That the sums are the definition's is
-- seen by computing it (proofs of `plate::w`, `plate::dw`, `plate::ddw`).
use Rattle.std.specs.Prelude.{List, ℕ, Float}
use Rattle.std.specs.Float.{Format}
use Rattle.float.specs.Lists.{◌!◌, table}
use Rattle.float.specs.Ops.{ops}
use Rattle.del_geo_core.specs.declared.mat3_row_major.Matrix3.{Matrix3}
use Rattle.plate_bending.specs.Bending as bending
use Rattle.plate_shear.specs.Shear as shear
use Rattle.plate.specs.Plate.{column3_of, column2_of}
use Rattle.plate.specs.declared.Dstrain.{Dstrain}
use Rattle.plate.specs.declared.Dstrains.{Dstrains}
use Rattle.plate.specs.declared.State.{State}

-- from dstrain at the two points of bending and the three of shear, the numbers by the degree of freedom i
unfoldable pub columns_of : Dstrains → (i : ℕ) → Dstrain
columns_of d i = record {
  bending0 = column3_of d.bending0 i;
  bending1 = column3_of d.bending1 i;
  shear0 = column2_of d.shear0 i;
  shear1 = column2_of d.shear1 i;
  shear2 = column2_of d.shear2 i;
}

module _ (f : Format) where
  open ops f use {◌⊕◌, zero, half}

  infixl 75 ◌⊕◌
  abbrev pub sum_of : (bending0 bending1 shear0 shear1 shear2 : Float) → Float
  sum_of bending0 bending1 shear0 shear1 shear2 = zero ⊕ bending0 ⊕ bending1 ⊕ shear0 ⊕ shear1 ⊕ shear2

  -- dstrain at all points
  unfoldable pub dstrains_of : (gd : Matrix3) (thk : Float) → Dstrains
  dstrains_of gd thk = record {
    bending0 = bending.dstrain_of f gd thk (bending.t0s f ! 0);
    bending1 = bending.dstrain_of f gd thk (bending.t0s f ! 1);
    shear0 = shear.dstrain_of f gd thk half zero;
    shear1 = shear.dstrain_of f gd thk half half;
    shear2 = shear.dstrain_of f gd thk zero half;
  }

  -- an entry of dw
  unfoldable pub dw_at_of : State → Dstrain → Float
  dw_at_of st d =
      sum_of
      (bending.dw_of f st.bending (bending.t0s f ! 0) d.bending0)
      (bending.dw_of f st.bending (bending.t0s f ! 1) d.bending1)
      (shear.dw_of f st.shear half zero d.shear0)
      (shear.dw_of f st.shear half half d.shear1)
      (shear.dw_of f st.shear zero half d.shear2)

  -- an entry of ddw
  unfoldable pub ddw_at_of : State → (di dj : Dstrain) → Float
  ddw_at_of st di dj =
      sum_of
      (bending.ddw_of f st.bending di.bending0 dj.bending0)
      (bending.ddw_of f st.bending di.bending1 dj.bending1)
      (shear.ddw_of f st.shear di.shear0 dj.shear0)
      (shear.ddw_of f st.shear di.shear1 dj.shear1)
      (shear.ddw_of f st.shear di.shear2 dj.shear2)

  -- the entries of degree of freedom i and each j
  unfoldable pub row_of : State → Dstrains → (i : ℕ) → List Float
  row_of st d i = table 9 (λ j. ddw_at_of st (columns_of d i) (columns_of d j))
