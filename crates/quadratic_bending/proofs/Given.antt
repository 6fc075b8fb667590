-- What is given for a refusal and for values that are taken, by their number; and no two results give the same.
use mathlib.Core.Path.{◌≡◌, ap, sym}
use mathlib.Core.List.{List}
use Prim.Native.Nat.{ℕ}
use native.Mathlib.Omega.{arith}
use lib.Ieee.{Float, Format}
use Rattle.std.specs.Prelude.{Result, Ok, Err}
use Rattle.refusal.specs.Refusal.{accepted}
use Rattle.refusal.specs.Numbers.{refusal_number}
use Rattle.refusal.specs.declared.Refusal.{Refusal}
use Rattle.refusal.proofs.Numbered.{refuses, is_some, refusal_once}
use Rattle.quadratic_bending.specs.declared.Bending.{Bending}
use Rattle.quadratic_bending.specs.Bending.{BendingGiven, bending_of, bending_given}

pub refused : (f : Format) (refusal : Refusal) (w dwdp : List Float) {n : ℕ} → refusal_number refusal ≡ n → bending_given f (Err refusal) ≡ bending_of f n w dwdp
unfolding bending_of
refused f refusal w dwdp e = rw (sym e, is_some refusal)

pub taken : (f : Format) (b : Bending) {n : ℕ} → accepted ≡ n → bending_given f (Ok b) ≡ bending_of f n b.w b.dwdp
unfolding bending_of
taken f b e = rw (sym e)

pub given_once : (f : Format) (r q : Result Bending Refusal) → bending_given f r ≡ bending_given f q → r ≡ q
given_once f (Ok a) (Ok b) e = ap (λ (g : BendingGiven). Ok (record { w = g.w; dwdp = g.dwdp })) e
given_once f (Ok a) (Err q) e = absurd (omega (arith, refuses q, ap (λ (g : BendingGiven). g.number) e))
given_once f (Err r) (Ok b) e = absurd (omega (arith, refuses r, ap (λ (g : BendingGiven). g.number) e))
given_once f (Err r) (Err q) e = ap Err (refusal_once r q (ap (λ (g : BendingGiven). g.number) e))
