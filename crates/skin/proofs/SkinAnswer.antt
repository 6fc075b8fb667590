-- What a call over a list of triangles answers, in the scope's words, whatever the kernel is: one answer fits; each number is given, and for which place, exactly where its cause comes
-- first; and what the energy and the buffer are after each. `IsSkin` is the instance of StVK, whose numbers are above 2. And what is known of the lengths where they are right.
use mathlib.Core.Path.{◌≡◌, refl, ap}
use mathlib.Core.Bool.{false, not, cond, ◌||◌}
use mathlib.Core.List.{List}
use mathlib.Core.Logic.{◌↔◌}
use Prim.Native.Nat.{ℕ, ◌+◌, ◌*◌, ◌/◌, ◌%◌, ◌≤◌, ◌<◌}
use native.Mathlib.Omega.{arith}
use lib.Dec.{eqb}
use lib.Ieee.{Float, Format}
use lib.ListN.{length, get_or}
use borrow.Author.Tests.{eqb-true, ne_eqb, le-leb, lt-leb, not-false}
use Rattle.std.specs.Prelude.{Result, Ok, Err}
use Rattle.float.specs.Lists.{cleared, every}
use Rattle.float.specs.Ops.{ops}
use Rattle.float.proofs.Fold.{map_length, map_at}
use Rattle.float.proofs.Scan.{neither}
use Rattle.float.proofs.Unique.{only}
use Rattle.refusal.specs.Refusal.{accepted, bad_name, Row, Cause}
use Rattle.refusal.specs.Answers as answers
use Rattle.refusal.specs.Panel as panel
use Rattle.refusal.specs.Listed.{ListedExactly}
use Rattle.refusal.proofs.Numbered.{refuses, refusal_once}
use Rattle.refusal.proofs.Panel as panels
use Rattle.refusal.proofs.KernelNumber.{kernel_above}
use Rattle.refusal.proofs.Ladder.{first_above}
use Rattle.refusal.proofs.Left.{left_made, left_kept, left_cleared}
use Rattle.refusal.proofs.Listed.{threes_above}
use Rattle.refusal.proofs.ListedNumber.{listed_exactly, early_exactly}
use Rattle.material.specs.declared.Material.{Material}
use Rattle.material.specs.declared.Stiffness.{Stiffness}
use Rattle.stvk_tri3.specs.Stvk.{stvk_of}
use Rattle.skin.specs.declared.Refused.{Refused}
use Rattle.skin.specs.Sums.{Kernel, numbers_of, energy_of, gradient_of}
use Rattle.skin.specs.declared.SkinGiven.{SkinGiven}
use Rattle.skin.specs.Skin.{skin_given, bad_length_of, early_of, late_of, keeps, skin_of, answer_of, IsSkinOver, IsSkin}

-- a number that an answer is refused with is none of lengths and names
abbrev pub Above : Kernel → Type 0
Above answer = (i0 i1 i2 : ℕ) → ((answer i0 i1 i2).number ≡ accepted → ⊥) → bad_name < (answer i0 i1 i2).number

pub stvk_above : (f : Format) (vtx2ini vtx2def : List Float) (stiffness : Stiffness) → Above (answer_of f vtx2ini vtx2def stiffness)
unfolding answer_of stvk_of answers.energy_of
stvk_above f vtx2ini vtx2def stiffness i0 i1 i2 = kernel_above _

-- no second answer fits
pub unique : (f : Format) (vtx2ini vtx2def : List Float) (tri2vtx : List ℕ) (m : Material) (before : List Float) {r q : SkinGiven} {after left : List Float}
    → IsSkin f vtx2ini vtx2def tri2vtx m before r after → IsSkin f vtx2ini vtx2def tri2vtx m before q left → (r ≡ q) × (after ≡ left)
unique f vtx2ini vtx2def tri2vtx m before a b = let e = only a.0 b.0 in (e, only a.1 (rw e b.1))

-- nor a second answer of `given`
pub given : (f : Format) (answer : Result Float Refused) {r q : SkinGiven} → r ≡ skin_given f answer → q ≡ skin_given f answer → r ≡ q
given f answer = only

-- nor does a second result
given_once : (f : Format) (r q : Result Float Refused) → skin_given f r ≡ skin_given f q → r ≡ q
given_once f (Ok a) (Ok b) e = ap (λ (g : SkinGiven). Ok g.w) e
given_once f (Ok a) (Err q) e = absurd (omega (arith, refuses q.refusal, ap (λ (g : SkinGiven). g.number) e))
given_once f (Err r) (Ok b) e = absurd (omega (arith, refuses r.refusal, ap (λ (g : SkinGiven). g.number) e))
given_once f (Err r) (Err q) e =
    let n = refusal_once r.refusal q.refusal (ap (λ (g : SkinGiven). g.number) e) in
    let k = ap (λ (g : SkinGiven). g.place) e in
    ap Err (rw (n, k))

pub unique_result : (f : Format) (vtx2ini vtx2def : List Float) (tri2vtx : List ℕ) (m : Material) (before : List Float) {r q : Result Float Refused} {after left : List Float}
    → IsSkin f vtx2ini vtx2def tri2vtx m before (skin_given f r) after → IsSkin f vtx2ini vtx2def tri2vtx m before (skin_given f q) left → (r ≡ q) × (after ≡ left)
unique_result f vtx2ini vtx2def tri2vtx m before a b = let is = unique f vtx2ini vtx2def tri2vtx m before a b in (given_once f _ _ is.0, is.1)

module _ (answer : Kernel) (tri2vtx : List ℕ) where
  -- the number of triangle k
  pub number_at : (k : ℕ) → k * 3 + 2 < length tri2vtx
      → get_or (numbers_of answer tri2vtx) k accepted ≡ (answer (get_or tri2vtx (k * 3) 0) (get_or tri2vtx (k * 3 + 1) 0) (get_or tri2vtx (k * 3 + 2) 0)).number
  number_at k h = map_at _ tri2vtx k 0 accepted h

  pub count : length (numbers_of answer tri2vtx) ≡ length tri2vtx / 3
  count = map_length _ tri2vtx

module _ (f : Format) (answer : Kernel) (ini def : ℕ) (tri2vtx : List ℕ) (before : List Float) where
  open ops f use {zero}

  abbrev energy : Float
  energy = energy_of f answer tri2vtx

  abbrev gradient : List Float
  gradient = gradient_of f answer tri2vtx (length before)

  abbrev pub early : List Row
  early = early_of ini def tri2vtx (length before)

  abbrev pub numbers : List ℕ
  numbers = numbers_of answer tri2vtx

  abbrev pub late : List Row
  late = late_of energy gradient

  module _ {r : SkinGiven} {after : List Float} (is : IsSkinOver f answer ini def tri2vtx before r after) where
    -- THE theorem of the number and the place
    pub numbers_exactly : ListedExactly r.number r.place early numbers late
    unfolding skin_of every
    numbers_exactly = rw is.0 (listed_exactly early numbers late refl refl)

    -- 1 and 2 are given for lengths and names alone, for no place
    pub early_only : Above answer → (n : ℕ) → (n ≡ accepted → ⊥) → n ≤ bad_name → r.number ≡ n ↔ (Cause n early × (r.place ≡ 0))
    unfolding skin_of every
    early_only above = rw is.0 (early_exactly early numbers late refl refl bad_name (threes_above _ bad_name above tri2vtx) (first_above bad_name late refl))

    -- what the number says of the energy
    energy_left : r.w ≡ cond (eqb r.number accepted) energy zero
    unfolding skin_of
    energy_left = rw is.0

    pub accepted_sums : r.number ≡ accepted → (r.w ≡ energy) × (after ≡ gradient)
    accepted_sums e = (rw e at energy_left, left_made f keeps _ _ before is.1 e)

    pub refused_energy : (r.number ≡ accepted → ⊥) → r.w ≡ zero
    refused_energy z = rw (ne_eqb _ accepted z) at energy_left

    -- after 1 and 2 the buffer is as it was, after any other refusal +0 throughout
    pub refused_cleared : bad_name < r.number → after ≡ cleared f before
    refused_cleared h = left_cleared f keeps _ gradient _ is.1 (λ (e : r.number ≡ accepted). omega arith) (lt-leb _ bad_name h)

    pub refused_unchanged : (r.number ≡ accepted → ⊥) → r.number ≤ bad_name → after ≡ before
    refused_unchanged z h = left_kept f keeps _ gradient _ is.1 z (le-leb _ bad_name h)

-- what is known of the lengths where they are right
pub sized : (ini def names places : ℕ) → bad_length_of ini def names places ≡ false → (names % 3 ≡ 0) × (places ≡ ini / 3 * 3) × (ini ≡ places) × (def ≡ places)
unfolding bad_length_of
sized ini def names places e =
    let l = neither (panel.bad_length_of (ini / 3) names places || not (eqb ini places)) _ e in
    let k = neither (panel.bad_length_of (ini / 3) names places) _ l.0 in
    let known = panels.sized (ini / 3) names places k.0 in
    (known.0, known.1, eqb-true ini places (not-false _ k.1), eqb-true def places (not-false _ l.1))
