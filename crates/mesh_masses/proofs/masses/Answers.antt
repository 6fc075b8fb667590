-- `masses` meets its contract: its tests are the ladder's rows on the lists that the blocks stand for, and what it leaves in the buffer at each return is what the number says.
use mathlib.Core.Path.{◌≡◌, sym, ap, ◌∙◌}
use mathlib.Core.Bool.{Bool, not, ◌&&◌}
use mathlib.Core.List.{List}
use Prim.Native.Nat.{ℕ}
use native.Mathlib.Omega.{arith}
use lib.Ieee.{Float, binary64}
use lib.Ieee.Scale.{finite}
use borrow.Author.Tests.{not-false}
use Rattle.refusal.proofs.Panel.{sized}
use Rattle.mitc_tri3.specs.Masses.{bad_input_of}
use Rattle.mitc_tri3.proofs.MassesReturns.{refused_1, refused_2, refused_3, refused_6, refused_5, done}
use Rattle.mesh_masses.specs.Blocks.{seen_of}
use Rattle.mesh_masses.specs.declared.Seen.{Seen}
use Rattle.mesh_masses.proofs.Lists.{vertices, lengths}
use Rattle.mesh_masses.proofs.masses.Goals as goal

bad_input_lem : (tri : List ℕ) (xy : List Float) (thick rho : Float) {a b : Bool} {s : Seen} → s ≡ seen_of tri xy → a ≡ finite thick → b ≡ finite rho
    → not (a && b && s.finite) ≡ bad_input_of tri xy thick rho
unfolding bad_input_of
bad_input_lem tri xy thick rho e g h = rw (e, g, h)

pub returns-then-bad_length : goal.returns-then-bad_length
returns-then-bad_length c = refused_1 binary64 _ _ _ _ _ (c.bad_length.ensures ∙ lengths _ _ _) c.if-bad_length.true

pub returns-then-not-seen : goal.returns-then-not-seen
returns-then-not-seen c =
    refused_2 binary64 _ _ _ _ _ (c.bad_length.ensures ∙ lengths _ _ _) c.if-bad_length.false (ap (λ (s : Seen). s.named) c.look-seen.ensures) c.if-not-seen.true

pub returns-then-not-is_finite-seen : goal.returns-then-not-is_finite-seen
returns-then-not-is_finite-seen c =
    refused_3 binary64 _ _ _ _ _ (c.bad_length.ensures ∙ lengths _ _ _) c.if-bad_length.false (ap (λ (s : Seen). s.named) c.look-seen.ensures) c.if-not-seen.false
    (bad_input_lem _ _ _ _ c.look-seen.ensures c.is_finite.ensures c.is_finite-2.ensures) (ap not c.if-not-is_finite-seen.true)

pub returns-then-not-seen-2 : goal.returns-then-not-seen-2
returns-then-not-seen-2 c =
    let bad_input = bad_input_lem _ _ _ _ c.look-seen.ensures c.is_finite.ensures c.is_finite-2.ensures in
    refused_6 binary64 _ _ _ _ _ (c.bad_length.ensures ∙ lengths _ _ _) c.if-bad_length.false (ap (λ (s : Seen). s.named) c.look-seen.ensures) c.if-not-seen.false
    bad_input (ap not c.if-not-is_finite-seen.false) (ap (λ (s : Seen). s.unturned) c.look-seen.ensures) c.if-not-seen-2.true

pub add_all-requires-clause-cells_value : goal.add_all-requires-clause-cells_value
add_all-requires-clause-cells_value c = sym (ap (λ (s : Seen). s.named) c.look-seen.ensures) ∙ not-false _ c.if-not-seen.false

pub add_all-requires-clause-vtx2mass_len : goal.add_all-requires-clause-vtx2mass_len
add_all-requires-clause-vtx2mass_len c = rw vertices (c.clear.auto.xs ∙ (sized _ _ _ (sym c.bad_length.ensures ∙ c.if-bad_length.false)).1)

pub returns-then-not-all_finite : goal.returns-then-not-all_finite
returns-then-not-all_finite c =
    refused_5 binary64 _ _ _ _ _ (c.bad_length.ensures ∙ lengths _ _ _) c.if-bad_length.false (ap (λ (s : Seen). s.named) c.look-seen.ensures) c.if-not-seen.false
    (bad_input_lem _ _ _ _ c.look-seen.ensures c.is_finite.ensures c.is_finite-2.ensures) (ap not c.if-not-is_finite-seen.false)
    (ap (λ (s : Seen). s.unturned) c.look-seen.ensures) c.if-not-seen-2.false c.clear.ensures c.add_all.ensures c.all_finite.ensures (ap not c.if-not-all_finite.true)
    (omega (arith, c.add_all.auto.vtx2mass, c.clear.auto.xs)) c.clear-then-not-all_finite.ensures

pub returns : goal.returns
returns c =
    done binary64 _ _ _ _ _ (c.bad_length.ensures ∙ lengths _ _ _) c.if-bad_length.false (ap (λ (s : Seen). s.named) c.look-seen.ensures) c.if-not-seen.false
    (bad_input_lem _ _ _ _ c.look-seen.ensures c.is_finite.ensures c.is_finite-2.ensures) (ap not c.if-not-is_finite-seen.false)
    (ap (λ (s : Seen). s.unturned) c.look-seen.ensures) c.if-not-seen-2.false c.clear.ensures c.add_all.ensures c.all_finite.ensures (ap not c.if-not-all_finite.false)
