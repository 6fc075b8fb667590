-- A search in order stops at the first place where something is wrong; and there is one such place, or none.
use Rattle.std.proofs.Common.{◌≡◌, ◌∙◌, sym, ap, refl, Bool, true, false, Option, Some, None, ℕ, ◌≤◌, ◌<◌, arith}
use Rattle.std.specs.Option.{MatchOption}
use mathlib.Core.Bool.{true≢false}
use native.Mathlib.Decide.{dec_le}
use Rattle.survey.specs.First.{IsFirst}

module _ (n : ℕ) (wrong : ℕ → Bool) where
  -- as `find` over 0..n says it
  pub found : (r : Option ℕ)
      → MatchOption r ((k : ℕ) → 0 ≤ k → k < n → wrong k ≡ false) (λ i. (0 ≤ i) × (i < n) × (wrong i ≡ true) × ((k : ℕ) → 0 ≤ k → k < i → wrong k ≡ false))
      → IsFirst n wrong r
  found None h = λ k g. h k (omega arith) g
  found (Some i) h = (h.1, h.2, λ k g. h.3 k (omega arith) g)

  not_both : (k : ℕ) → wrong k ≡ true → wrong k ≡ false → ⊥
  not_both k h g = true≢false (sym h ∙ g)

  same : (r q : ℕ) → IsFirst n wrong (Some r) → IsFirst n wrong (Some q) → Dec (r ≤ q) → Dec (q ≤ r) → r ≡ q
  same r q a b (yes h) (yes g) = omega arith
  same r q a b (yes h) (no g) = absurd (not_both r a.1 (b.2 r (omega arith)))
  same r q a b (no h) g = absurd (not_both q b.1 (a.2 q (omega arith)))

  -- no second place fits
  pub unique : (r q : Option ℕ) → IsFirst n wrong r → IsFirst n wrong q → r ≡ q
  unique (Some r) (Some q) a b = ap (λ k. Some k) (same r q a b (dec_le r q) (dec_le q r))
  unique (Some r) None a b = absurd (not_both r a.1 (b r a.0))
  unique None (Some q) a b = absurd (not_both q b.1 (a q b.0))
  unique None None a b = refl
