-- No second answer fits a statement of this crate: each is an equation with a definition.
use mathlib.Core.Path.{◌≡◌}
use lib.Ieee.{Float, Format}
use Rattle.float.proofs.Unique.{only}
use Rattle.vec3.specs.declared.V3.{V3}
use Rattle.vec3.specs.declared.Divided.{Divided}
use Rattle.vec3.specs.Vec3.{dot_of, cross_of, sub_of, scale_of, norm_of, over_of, unit_of, normalize_of}

module _ (f : Format) where
  pub dot : (a b : V3) {r q : Float} → r ≡ dot_of f a b → q ≡ dot_of f a b → r ≡ q
  dot a b = only

  pub cross : (a b : V3) {r q : V3} → r ≡ cross_of f a b → q ≡ cross_of f a b → r ≡ q
  cross a b = only

  pub sub : (a b : V3) {r q : V3} → r ≡ sub_of f a b → q ≡ sub_of f a b → r ≡ q
  sub a b = only

  pub scale : (a : V3) (s : Float) {r q : V3} → r ≡ scale_of f a s → q ≡ scale_of f a s → r ≡ q
  scale a s = only

  pub norm : (a : V3) {r q : Float} → r ≡ norm_of f a → q ≡ norm_of f a → r ≡ q
  norm a = only

  pub over : (a : V3) (d : Float) {r q : Divided} → r ≡ over_of f a d → q ≡ over_of f a d → r ≡ q
  over a d = only

  pub unit : (a : V3) {r q : Divided} → r ≡ unit_of f a → q ≡ unit_of f a → r ≡ q
  unit a = only

  pub normalize : (a : V3) {r q : V3} → r ≡ normalize_of f a → q ≡ normalize_of f a → r ≡ q
  normalize a = only
