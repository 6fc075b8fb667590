-- The list of starting roots, 01-scope 4.3, and its rule.
use Rattle.std.specs.Prelude.{ℕ, zero, suc, ◌+◌, ◌*◌, ◌<◌, ◌≤◌, List, [], ◌∷◌}
use Rattle.whole_root.specs.Whole.{isqrt}

-- the roots of n, n + 1, n + 2 and so on, each rounded down: k of them, in this order
unfoldable pub roots_from : ℕ → ℕ → List ℕ
unfolding isqrt
roots_from n zero = []
roots_from n (suc k) = isqrt 5 n ∷ roots_from (suc n) k

-- those of 0 up to 1,023
unfoldable pub starts : List ℕ
unfolding roots_from
starts = roots_from 0 1024

-- the rule: r is the root of n rounded down
pub record Start (n r : ℕ) : Type 0 where
  pub lower : r * r ≤ n
  pub upper : n < (r + 1) * (r + 1)
