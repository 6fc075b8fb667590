-- `mass_lumped_plate_bending` meets its contract: its tests are the ladder's rows, and what it leaves in the buffer at each return is what the number says.
use mathlib.Core.Path.{ap, sym, ◌∙◌}
use mathlib.Core.Bool.{not}
use native.Mathlib.Omega.{arith}
use lib.Ieee.{binary64}
use Rattle.refusal.proofs.Panel.{sized}
use Rattle.mitc_tri3.proofs.MassesReturns.{refused_1, refused_2, refused_3, refused_6, refused_5, done}
use Rattle.mitc_tri3.proofs.mass_lumped_plate_bending.Goals as goal

pub returns-then-bad_length : goal.returns-then-bad_length
returns-then-bad_length c = refused_1 binary64 _ _ _ _ _ c.bad_length.ensures c.if-bad_length.true

pub returns-then-not-names_below : goal.returns-then-not-names_below
returns-then-not-names_below c = refused_2 binary64 _ _ _ _ _ c.bad_length.ensures c.if-bad_length.false c.names_below.ensures (ap not c.if-not-names_below.true)

pub returns-then-bad_input : goal.returns-then-bad_input
returns-then-bad_input c =
    refused_3 binary64 _ _ _ _ _ c.bad_length.ensures c.if-bad_length.false c.names_below.ensures (ap not c.if-not-names_below.false) c.bad_input.ensures c.if-bad_input.true

pub none_turned-requires-clause-tri2vtx_len : goal.none_turned-requires-clause-tri2vtx_len
none_turned-requires-clause-tri2vtx_len c = (sized _ _ _ (sym c.bad_length.ensures ∙ c.if-bad_length.false)).0

pub returns-then-not-none_turned : goal.returns-then-not-none_turned
returns-then-not-none_turned c =
    refused_6 binary64 _ _ _ _ _ c.bad_length.ensures c.if-bad_length.false c.names_below.ensures (ap not c.if-not-names_below.false) c.bad_input.ensures c.if-bad_input.false
    c.none_turned.ensures (ap not c.if-not-none_turned.true)

pub add_all-requires-clause-tri2vtx_len : goal.add_all-requires-clause-tri2vtx_len
add_all-requires-clause-tri2vtx_len c = (sized _ _ _ (sym c.bad_length.ensures ∙ c.if-bad_length.false)).0

pub add_all-requires-clause-vtx2mass_len : goal.add_all-requires-clause-vtx2mass_len
add_all-requires-clause-vtx2mass_len c = c.clear.auto.xs ∙ (sized _ _ _ (sym c.bad_length.ensures ∙ c.if-bad_length.false)).1

pub returns-then-not-all_finite : goal.returns-then-not-all_finite
returns-then-not-all_finite c =
    refused_5 binary64 _ _ _ _ _ c.bad_length.ensures c.if-bad_length.false c.names_below.ensures (ap not c.if-not-names_below.false) c.bad_input.ensures c.if-bad_input.false
    c.none_turned.ensures (ap not c.if-not-none_turned.false) c.clear.ensures c.add_all.ensures c.all_finite.ensures (ap not c.if-not-all_finite.true)
    (omega (arith, c.add_all.auto, c.clear.auto)) c.clear-then-not-all_finite.ensures

pub returns : goal.returns
returns c =
    done binary64 _ _ _ _ _ c.bad_length.ensures c.if-bad_length.false c.names_below.ensures (ap not c.if-not-names_below.false) c.bad_input.ensures c.if-bad_input.false
    c.none_turned.ensures (ap not c.if-not-none_turned.false) c.clear.ensures c.add_all.ensures c.all_finite.ensures (ap not c.if-not-all_finite.false)
