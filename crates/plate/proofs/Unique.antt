-- No second answer fits a statement of this crate: each is an equation with a definition.
use mathlib.Core.Path.{◌≡◌}
use mathlib.Core.List.{List}
use lib.Ieee.{Float, Format}
use Rattle.float.proofs.Unique.{only}
use Rattle.del_geo_core.specs.Tri2.{Tri2}
use Rattle.del_geo_core.specs.Tri3.{Tri3}
use Rattle.plate.specs.Plate.{state_of, w_of, dw_of, ddw_of}
use Rattle.plate.specs.declared.State.{State}

module _ (f : Format) where
  pub state_of_lem : (p : Tri2) (u : Tri3) (thk lambda myu : Float) {r q : State} → r ≡ state_of f p u thk lambda myu → q ≡ state_of f p u thk lambda myu → r ≡ q
  state_of_lem p u thk lambda myu = only

  pub w : (s : State) {r q : Float} → r ≡ w_of f s → q ≡ w_of f s → r ≡ q
  w s = only

  pub dw : (s : State) {r q : List Float} → r ≡ dw_of f s → q ≡ dw_of f s → r ≡ q
  dw s = only

  pub ddw : (s : State) {r q : List Float} → r ≡ ddw_of f s → q ≡ ddw_of f s → r ≡ q
  ddw s = only
