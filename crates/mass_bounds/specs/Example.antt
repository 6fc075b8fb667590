-- The names of examples 1 and 3 (01-scope 7), buffers that are not example 3's masses (01-scope 8.2), and a panel whose masses are rounded far off.
use Rattle.std.specs.Prelude.{false, List, [], ◌∷◌, ℕ, pos, Float, replicate}
use Rattle.std.specs.Float.{nan, fin, binary64}
use Rattle.std.specs.Float.Ieee.{of_bits}
use Rattle.float.specs.Small.{zero, one, seven, twelve}
use Rattle.material.specs.Material.{lame_material}
use Rattle.material.specs.declared.Material.{Material}

abbrev pub names : List ℕ
names = 0 ∷ 1 ∷ 2 ∷ 1 ∷ 3 ∷ 2 ∷ []

abbrev pub first_names : List ℕ
first_names = 0 ∷ 1 ∷ 2 ∷ []

-- what a caller may have had there
abbrev pub untouched : List Float
untouched = replicate 12 seven

-- zeros, whatever the panel
abbrev pub all_zero : List Float
all_zero = replicate 12 zero

-- the masses of the first triangle alone (01-scope 7: 1)
abbrev pub first_only : List Float
first_only = twelve ∷ one ∷ one ∷ twelve ∷ one ∷ one ∷ twelve ∷ one ∷ one ∷ zero ∷ zero ∷ zero ∷ []

-- (0,0), (795985,0), (0,1): one triangle, each vertex named once, of density 0x1.fca9dap+1 and thickness 0x1.fd95cp+1
abbrev pub sharp_points : List Float
sharp_points = zero ∷ zero ∷ fin false 795985 (pos 0) ∷ zero ∷ zero ∷ one ∷ []

abbrev pub sharp_rho : Float
sharp_rho = of_bits binary64 0x400f_ca9d_a000_0000

abbrev pub sharp_thick : Float
sharp_thick = of_bits binary64 0x400f_d95c_0000_0000

abbrev pub sharp_sheet : Material
sharp_sheet = lame_material sharp_rho sharp_thick nan nan

abbrev pub sharp_before : List Float
sharp_before = replicate 9 zero
