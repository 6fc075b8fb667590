-- `dw` meets its contract: nine entries, each made of its degree of freedom, are the definition.
use Rattle.std.proofs.Common.{◌≡◌, ◌∙◌, refl, rules}
use Rattle.std.specs.Float.{binary64, nan}
use Rattle.std.specs.List.{range_with_len}
use mathlib.Core.List.{map}
use Rattle.float.specs.Lists.{each, fold, table}
use Rattle.plate_bending.specs.Bending.{t0s}
use Rattle.plate_shear.specs.Shear.{rs, ss}
use Rattle.plate_shear.proofs.Made.{made}
use Rattle.plate.specs.Plate.{accumulated_of, dw_of}
use Rattle.plate.specs.Parts.{dstrains_of, columns_of, dw_at_of}
use Rattle.plate.specs.declared.State.{State}
use Rattle.plate.proofs.dw.Goals as goal

whole : (s : State) → map (λ i. dw_at_of binary64 s (columns_of (dstrains_of binary64 s.gd s.thk) i)) (range_with_len 0 9) ≡ dw_of binary64 s
unfolding each table fold dstrains_of columns_of accumulated_of dw_at_of dw_of t0s rs ss
whole s = refl

pub returns : goal.returns
returns c =
    rw c.of-dstrains.ensures at (made _ (λ i. dw_at_of binary64 c.args.s (columns_of c.of-dstrains.result i)) _ 9 (λ i y q l k. search rules) _ nan c.from_fn.ensures.items)
    ∙ whole c.args.s
