-- `skin::wdw` meets its contract: its tests are the early ones, in their order, and `add_all` does the rest.
use mathlib.Core.Path.{sym, ◌∙◌, ap}
use mathlib.Core.Bool.{not}
use Rattle.skin.proofs.Sum.{refused_1, refused_2}
use Rattle.skin.proofs.wdw.Goals as goal

pub returns-then-bad_length : goal.returns-then-bad_length
returns-then-bad_length c = refused_1 _ _ _ _ _ _ (sym c.bad_length.ensures ∙ c.if-bad_length.true)

pub returns-then-not-names_below : goal.returns-then-not-names_below
returns-then-not-names_below c =
    refused_2 _ _ _ _ _ _ (sym c.bad_length.ensures ∙ c.if-bad_length.false) (ap not (sym c.names_below.ensures ∙ c.if-not-names_below.true))
