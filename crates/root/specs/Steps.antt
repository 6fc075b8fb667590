-- What the steps of the code hand on: a pattern taken apart.
use Rattle.std.specs.Prelude.{false, ℕ, ◌+◌, ◌*◌, ◌^◌, ◌≤◌, ◌<◌}
use Rattle.std.specs.Float.{Format}
use Rattle.std.specs.Float.Ieee.{low, hid, ones, of_bits}
use Rattle.std.specs.Float.Ieee.Exact.{HasValue}

-- the pattern b stands for m * 2 ^ u / 2 ^ (low + g), and m has all the digits of the format
pub record Unpacked (f : Format) (g b m u : ℕ) : Type 0 where
  pub from : hid f ≤ m
  pub below : m < 2 * hid f
  pub most : u + 1 < ones f + g
  pub value : HasValue (of_bits f b) false (m * 2 ^ u) (2 ^ (low f + g))
