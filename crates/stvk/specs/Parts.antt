-- What parts of the code give for which the definition has no name: what serves several entries of the Hessian at once.
use Rattle.std.specs.Prelude.{List, [], ◌∷◌, Float, fold}
use Rattle.std.specs.Float.{Format}
use Rattle.float.specs.Lists.{◌!◌}
use Rattle.float.specs.Ops.{ops}
use Rattle.del_geo_core.specs.declared.mat3_row_major.Matrix3.{Matrix3}
use Rattle.del_geo_core.specs.declared.tri2.V2.{V2}
use Rattle.vec3.specs.declared.V3.{V3}
use Rattle.stvk.specs.Stvk.{at_of, dndr_of, row_of, ddw_at_of}
use Rattle.stvk.specs.declared.State.{State}

module _ (f : Format) where
  open ops f use {◌⊕◌, ◌⊗◌, zero}

  infixl 75 ◌⊕◌
  infixl 80 ◌⊗◌
  -- four terms of dtmp0, each without its last factor, where `a` is one of gi times one of ni and e a row of the tensor
  unfoldable pub four_of : (a : Float) (e : V3) (gj : V2) → List Float
  four_of a e gj = a ⊗ e.x ⊗ gj.x ∷ a ⊗ e.y ⊗ gj.y ∷ a ⊗ e.z ⊗ gj.x ∷ a ⊗ e.z ⊗ gj.y ∷ []

  -- the terms of dtmp0 in its order, each without its last factor: that alone depends on jno
  unfoldable pub terms_of : (e : Matrix3) (gi ni gj : V2) → List (List Float)
  terms_of e gi ni gj =
      four_of (gi.x ⊗ ni.x) e.x gj ∷ four_of (gi.y ⊗ ni.y) e.y gj ∷ four_of (gi.x ⊗ ni.y) e.z gj ∷ four_of (gi.y ⊗ ni.x) e.z gj ∷ []

  -- dtmp0 from its terms
  unfoldable pub sum_of : (terms : List (List Float)) (nj : V2) → Float
  sum_of terms nj = fold (λ dtmp0 t. dtmp0 ⊕ t ! 0 ⊗ nj.x ⊕ t ! 1 ⊗ nj.y ⊕ t ! 2 ⊗ nj.y ⊕ t ! 3 ⊗ nj.x) zero terms

  -- dtmp0 * area0 for jdim = 0, 1, 2, from the terms of each
  unfoldable pub sums_of : (x y z : List (List Float)) (nj : V2) (area0 : Float) → V3
  sums_of x y z nj area0 = record { x = sum_of x nj ⊗ area0; y = sum_of y nj ⊗ area0; z = sum_of z nj ⊗ area0 }

  -- the same, a row for each jno
  unfoldable pub rows_of : State → (g : List V2) (gi ni : V2) → Matrix3
  rows_of s g gi ni = record {
    x = row_of f s g gi ni (at_of (dndr_of f) 0);
    y = row_of f s g gi ni (at_of (dndr_of f) 1);
    z = row_of f s g gi ni (at_of (dndr_of f) 2);
  }

  -- ddw[ino] by its blocks, for jno = 0, 1, 2
  unfoldable pub blocks_of : State → (g : List V2) (ni : V2) → List (List Float)
  blocks_of s g ni =
      ddw_at_of f s g ni (at_of (dndr_of f) 0) ∷ ddw_at_of f s g ni (at_of (dndr_of f) 1) ∷ ddw_at_of f s g ni (at_of (dndr_of f) 2) ∷ []
