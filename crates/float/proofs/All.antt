-- A fold that looks at each element, without stopping early, says whether every one passes.
use mathlib.Core.Path.{◌≡◌, sym, ◌∙◌}
use mathlib.Core.Bool.{Bool, true, ◌&&◌, and_assoc, and-true}
use mathlib.Core.List.{List, [], ◌∷◌}
use Rattle.std.specs.List.{fold}
use Rattle.float.specs.Lists.{every}

module _ {A : Type 0} (p : A → Bool) where
  fold_and : (ok : Bool) (xs : List A) → fold (λ b x. b && p x) ok xs ≡ (ok && every p xs)
  unfolding every
  fold_and ok [] = sym (and-true ok)
  fold_and ok (x ∷ xs) = fold_and (ok && p x) xs ∙ and_assoc ok (p x) (every p xs)

  pub every_fold : (xs : List A) → fold (λ b x. b && p x) true xs ≡ every p xs
  every_fold xs = fold_and true xs
