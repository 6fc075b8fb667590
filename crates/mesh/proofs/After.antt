-- What `after` makes of an item: it goes on where the item is taken, and stops where it is refused.
use mathlib.Core.Path.{◌≡◌, refl, sym, ◌∙◌}
use Prim.Native.Nat.{ℕ}
use Rattle.std.specs.Prelude.{Result, Ok, Err}
use Rattle.mesh.specs.Items.{Step, after}
use Rattle.mesh.proofs.Item.{never}

module _ {A : Type 0} (s : Step) (more : ℕ → ℕ → Result A ℕ) where
  pub after_next : (v a : ℕ) → s ≡ Ok (v, a) → after s more ≡ more v a
  unfolding after
  after_next v a e = rw e

  pub after_bad : (place : ℕ) → s ≡ Err place → after s more ≡ Err place
  unfolding after
  after_bad place e = rw e

pub after_taken : {A : Type 0} (s : Step) (more : ℕ → ℕ → Result A ℕ) (x : A) → after s more ≡ Ok x → (v : ℕ) × (a : ℕ) × (s ≡ Ok (v, a)) × (more v a ≡ Ok x)
unfolding after
after_taken (Ok (v, a)) more x e = (v, a, refl, e)
after_taken (Err place) more x e = never e

-- an item, what follows it and what comes last stop at a place: so does the answer, if it does where the item is taken
pub after_refused : {A : Type 0} (place : ℕ) (s : Step) (more last : ℕ → ℕ → Step) (answers : ℕ → ℕ → Result A ℕ)
    → ((v a : ℕ) → after (more v a) last ≡ Err place → answers v a ≡ Err place) → after (after s more) last ≡ Err place → after s answers ≡ Err place
unfolding after
after_refused place (Ok (v, a)) more last answers h e = h v a e
after_refused place (Err q) more last answers h e = cc

-- the code, which has r for the item s and answers x
module _ {r s : Step} (e : r ≡ s) {A : Type 0} {x : Result A ℕ} (more : ℕ → ℕ → Result A ℕ) where
  pub stop : (place : ℕ) → r ≡ Err place → x ≡ Err place → x ≡ after s more
  stop place h g = g ∙ sym (after_bad s more place (sym e ∙ h))

  pub go_on : (v a : ℕ) → r ≡ Ok (v, a) → x ≡ more v a → x ≡ after s more
  go_on v a h g = g ∙ sym (after_next s more v a (sym e ∙ h))
