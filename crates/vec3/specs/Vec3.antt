-- Vectors of three numbers, over the format (01-scope 3.2: dot, cross, sub, scale, norm, normalize).
use Rattle.std.specs.Prelude.{List, Float}
use Rattle.std.specs.Float.{Format}
use Rattle.float.specs.Lists.{◌!◌}
use Rattle.float.specs.Ops.{ops}
use Rattle.root.specs.Root.{root_of}
use Rattle.vec3.specs.declared.V3.{V3}
use Rattle.vec3.specs.declared.Divided.{Divided}

-- a point, from a list of its numbers
abbrev pub point_of : List Float → V3
point_of a = record { x = a ! 0; y = a ! 1; z = a ! 2 }

module _ (f : Format) where
  open ops f use {◌⊕◌, ◌⊖◌, ◌⊗◌, ◌⊘◌, one}

  infixl 75 ◌⊕◌ ◌⊖◌
  infixl 80 ◌⊗◌ ◌⊘◌
  abbrev pub dot_of : V3 → V3 → Float
  dot_of a b = a.x ⊗ b.x ⊕ a.y ⊗ b.y ⊕ a.z ⊗ b.z

  abbrev pub cross_of : V3 → V3 → V3
  cross_of a b = record { x = a.y ⊗ b.z ⊖ a.z ⊗ b.y; y = a.z ⊗ b.x ⊖ a.x ⊗ b.z; z = a.x ⊗ b.y ⊖ a.y ⊗ b.x }

  abbrev pub sub_of : V3 → V3 → V3
  sub_of a b = record { x = a.x ⊖ b.x; y = a.y ⊖ b.y; z = a.z ⊖ b.z }

  abbrev pub scale_of : V3 → Float → V3
  scale_of a s = record { x = a.x ⊗ s; y = a.y ⊗ s; z = a.z ⊗ s }

  unfoldable pub norm_of : V3 → Float
  norm_of a = root_of f (dot_of a a)

  -- scaled by 1 / d, with the divisor beside it
  unfoldable pub over_of : V3 → Float → Divided
  over_of a d = record { v = scale_of a (one ⊘ d); by = d }

  unfoldable pub unit_of : V3 → Divided
  unit_of a = over_of a (norm_of a)

  unfoldable pub normalize_of : V3 → V3
  normalize_of a = (unit_of a).v
