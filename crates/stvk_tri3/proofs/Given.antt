-- What is given for a refusal and for strains that are taken, by their number; and no two results give the same.
use mathlib.Core.Path.{◌≡◌, ap, sym}
use Prim.Native.Nat.{ℕ}
use native.Mathlib.Omega.{arith}
use lib.Ieee.{Format}
use Rattle.std.specs.Prelude.{Result, Ok, Err}
use Rattle.refusal.specs.Refusal.{accepted}
use Rattle.refusal.specs.Numbers.{refusal_number}
use Rattle.refusal.specs.declared.Refusal.{Refusal}
use Rattle.refusal.proofs.Numbered.{refuses, is_some, refusal_once}
use Rattle.strain.specs.declared.Values.{Values}
use Rattle.stvk_tri3.specs.Strain.{StrainGiven, strain_given, strain_of}

pub refused : (f : Format) (refusal : Refusal) (values : Values) {n : ℕ} → refusal_number refusal ≡ n → strain_given f (Err refusal) ≡ strain_of f n values
unfolding strain_of
refused f refusal values e = rw (sym e, is_some refusal)

pub taken : (f : Format) (values : Values) {n : ℕ} → accepted ≡ n → strain_given f (Ok values) ≡ strain_of f n values
unfolding strain_of
taken f values e = rw (sym e)

pub given_once : (f : Format) (r q : Result Values Refusal) → strain_given f r ≡ strain_given f q → r ≡ q
given_once f (Ok a) (Ok b) e = ap (λ (g : StrainGiven). Ok (record { w = g.w; dw = g.dw })) e
given_once f (Ok a) (Err q) e = absurd (omega (arith, refuses q, ap (λ (g : StrainGiven). g.number) e))
given_once f (Err r) (Ok b) e = absurd (omega (arith, refuses r, ap (λ (g : StrainGiven). g.number) e))
given_once f (Err r) (Err q) e = ap Err (refusal_once r q (ap (λ (g : StrainGiven). g.number) e))
