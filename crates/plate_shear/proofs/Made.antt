-- An array that `array::from_fn` makes, where each call answers h of its index and leaves the closure as it was: h at each index, in order.
use Rattle.std.proofs.Common.{◌≡◌, ◌∙◌, ℕ, zero, suc, ◌+◌, ◌<◌, ◌≤◌, List, get_or, arith}
use Rattle.std.proofs.lemmas.List.FromFn.{fill_by_all}
use Rattle.std.specs.Array.{IsFromFnResult, IsFromFnResultFrom}
use Rattle.std.specs.Fn.{Called}
use Rattle.std.specs.List.{range_with_len}
use denote.Param.Members.{Mut}
use mathlib.Core.List.{map}

module _ {F B : Type 0} (g : Mut F (ℕ × Unit {0}) B) (h : ℕ → B) (f : F) (n : ℕ)
    (answers : (i : ℕ) (y : B) (q : F) → i < n → Called g f (i, tt) y q → (y ≡ h i) × (q ≡ f)) where
  made_at : (ys : List B) (i m j p : ℕ) (d : B) → j < m → p ≡ i + j → i + m ≤ n → IsFromFnResultFrom g f ys i m → get_or ys p d ≡ h p
  made_at ys i zero j p d lt e le r = absurd (omega arith)
  made_at ys i (suc m) zero p d lt e le (q, y, elem, call, rest) =
      let ep : p ≡ i = omega arith in
      rw ep (elem.1 d ∙ (answers i y q (omega arith) call).0)
  made_at ys i (suc m) (suc j) p d lt e le (q, y, elem, call, rest) =
      made_at ys (i + 1) m j p d (omega arith) (omega arith) (omega arith) (rw (answers i y q (omega arith) call).1 at rest)

  pub made : (ys : List B) (d : B) → IsFromFnResult g f ys n → ys ≡ map h (range_with_len 0 n)
  made ys d r = fill_by_all h ys n d r.long (λ k l. made_at ys 0 n k k d l (omega arith) (omega arith) r.each)
