-- What is given for a refusal and for an energy that is taken, by their number; and no two results give the same.
use mathlib.Core.Path.{◌≡◌, ap, sym}
use mathlib.Core.List.{List}
use Prim.Native.Nat.{ℕ}
use native.Mathlib.Omega.{arith}
use lib.Ieee.{Float, Format}
use Rattle.std.specs.Prelude.{Result, Ok, Err}
use Rattle.refusal.specs.Refusal.{accepted}
use Rattle.refusal.specs.Numbers.{refusal_number}
use Rattle.refusal.specs.Answers.{EnergyGiven, energy_given, energy_of}
use Rattle.refusal.specs.declared.Energy.{Energy}
use Rattle.refusal.specs.declared.Refusal.{Refusal}
use Rattle.refusal.proofs.Numbered.{refuses, is_some, refusal_once}

pub refused : (f : Format) (refusal : Refusal) (w : Float) (dw ddw : List Float) {n : ℕ} → refusal_number refusal ≡ n → energy_given f (Err refusal) ≡ energy_of f n w dw ddw
unfolding energy_of
refused f refusal w dw ddw e = rw (sym e, is_some refusal)

pub taken : (f : Format) (e : Energy) {n : ℕ} → accepted ≡ n → energy_given f (Ok e) ≡ energy_of f n e.w e.dw e.ddw
unfolding energy_of
taken f energy e = rw (sym e)

pub given_once : (f : Format) (r q : Result Energy Refusal) → energy_given f r ≡ energy_given f q → r ≡ q
given_once f (Ok a) (Ok b) e = ap (λ (g : EnergyGiven). Ok (record { w = g.w; dw = g.dw; ddw = g.ddw })) e
given_once f (Ok a) (Err q) e = absurd (omega (arith, refuses q, ap (λ (g : EnergyGiven). g.number) e))
given_once f (Err r) (Ok b) e = absurd (omega (arith, refuses r, ap (λ (g : EnergyGiven). g.number) e))
given_once f (Err r) (Err q) e = ap Err (refusal_once r q (ap (λ (g : EnergyGiven). g.number) e))
