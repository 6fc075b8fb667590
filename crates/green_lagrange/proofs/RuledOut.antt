-- The family has the sheet of the finding in it, its answer meets `IsBookStrain`, and the ported strain's answer does not: 6 in place of 1.5, by computing.
use mathlib.Core.Path.{refl}
use mathlib.Core.Bool.{false≢true}
use lib.Dec.{lit≤}
use lib.Ieee.{binary64, fits, sub, mul, div, of_bits}
use borrow.Author.Tests.{eq-eqb}
use Rattle.float.specs.Lists.{every}
use Rattle.root.specs.Root.{root_of}
use Rattle.refusal.specs.Refusal.{first_of, kernel_number}
use Rattle.refusal.specs.Answers.{zero_divisor_of}
use Rattle.rounding.specs.Exact.{mag, sign, value}
use Rattle.rounding.specs.Whole.{is_whole_up_to, is_natural}
use Rattle.corners.specs.Plane as plane
use Rattle.corners.specs.Space as space
use Rattle.vec3.specs.Vec3 as vec3
use Rattle.edges.specs.Edges as edges
use Rattle.strain.specs.Strain as strain
use Rattle.stvk_tri3.specs.Example.{at_rest, pulled}
use Rattle.stvk_tri3.specs.GreenLagrange.{green_lagrange_of}
use Rattle.stvk_tri3.specs.Strain.{tested_of, tests_of, strain_of, answer_of, ported_of}
use Rattle.green_lagrange.specs.Book.{IsBookStrain}
use Rattle.green_lagrange.specs.Sheet.{InFamily}
use Rattle.green_lagrange.proofs.Theorem.{green_lagrange_lem}

in_family : InFamily binary64 1 0 (plane.corners_of at_rest) (space.corners_of pulled)
unfolding is_natural is_whole_up_to fits value mag sign
in_family = record { side_x = lit≤ tt; side_y = lit≤ tt; rest = refl; deformed = refl }

pub met : IsBookStrain binary64 2 1 (space.corners_of pulled) (green_lagrange_of binary64 (plane.corners_of at_rest) (space.corners_of pulled))
met = green_lagrange_lem at_rest pulled refl in_family

pub not_ported : IsBookStrain binary64 2 1 (space.corners_of pulled) (ported_of binary64 (plane.corners_of at_rest) (space.corners_of pulled)) → ⊥
unfolding value mag sign sub mul div of_bits every root_of first_of kernel_number zero_divisor_of vec3.norm_of vec3.over_of vec3.unit_of edges.plane_of edges.space_of
    edges.glstrain_of strain.rest_of strain.gugu0_of strain.w_of strain.hoge_of strain.dw_k_of strain.dw_of strain.values_of tested_of tests_of strain_of answer_of
not_ported h = false≢true (eq-eqb _ _ h.xx.same.is)
