-- What a root is taken of, and what its digits come to.
use Rattle.std.specs.Prelude.{◌≡◌, ℕ, ◌+◌, ◌*◌, ◌^◌, ◌<◌, ◌≤◌}

-- a has 53 or 54 binary digits
pub record IsEvened (a : ℕ) : Type 0 where
  pub from : 2 ^ 52 ≤ a
  pub below : a < 2 ^ 54

-- s is the whole root of n, and r is left over
pub record Digits (n s r : ℕ) : Type 0 where
  pub sum : s * s + r ≡ n
  pub left : r ≤ 2 * s
  pub some : 0 < s
  pub below : s < 2 ^ 53
