-- The identity's entries, over any denominator: d / d on the diagonal, and 0 / d off it.
use mathlib.Core.Bool.{false}
use Prim.Native.Nat.{ℕ}
use Rattle.rounding.specs.Exact.{signed}
use Rattle.green_lagrange.specs.Book.{identity}
use Rattle.green_lagrange.proofs.Fraction.{Reads, reads_one, reads_none}

pub identity_xx : (d : ℕ) → Reads identity.XX (signed false d) d
identity_xx = reads_one

pub identity_yy : (d : ℕ) → Reads identity.YY (signed false d) d
identity_yy = reads_one

pub identity_xy : (d : ℕ) → Reads identity.XY (signed false 0) d
identity_xy = reads_none
