-- The first of n places where something is wrong.
use Rattle.std.specs.Prelude.{◌≡◌, Bool, true, false, Option, Some, None, ℕ, ◌<◌}

-- something is wrong at the place, and nothing before it; or nothing is wrong at all
abbrev pub IsFirst : (n : ℕ) (wrong : ℕ → Bool) → Option ℕ → Type 0
IsFirst n wrong (Some r) = (r < n) × (wrong r ≡ true) × ((i : ℕ) → i < r → wrong i ≡ false)
IsFirst n wrong None = (i : ℕ) → i < n → wrong i ≡ false
