-- The marked examples hold (01-scope 8.3): every row of the table, by computing.
use mathlib.Core.Path.{◌≡◌, refl, ap}
use Prim.Native.Nat.{ℕ}
use lib.Ieee.{binary64, sub, mul, div, lt, of_bits, to_bits}
use Rattle.float.specs.Lists.{every, table as tabled, each, fold, fold_threes, map_threes}
use Rattle.root.specs.Root.{root_of, root_word_of}
use Rattle.refusal.specs.Refusal.{accepted, zero_divisor, first_of, kernel_number}
use Rattle.refusal.specs.Answers.{EnergyGiven, zero_divisor_of, bad_energy_of, energy_of}
use Rattle.refusal.specs.Left.{left_of}
use Rattle.refusal.specs.Panel.{within_limits, bad_length_of}
use Rattle.places.specs.Places.{add_vertex, add_triangle}
use Rattle.places.specs.Plane.{corners_at, triangles, named_finite}
use Rattle.material.specs.Material as material
use Rattle.vec3.specs.Vec3 as vec3
use Rattle.del_geo_core.specs.Tri2 as tri2
use Rattle.del_geo_core.specs.Tri3 as tri3
use Rattle.del_geo_core.specs.Edge as edge
use Rattle.del_geo_core.specs.CurveLinearCoords as coords
use Rattle.del_geo_core.specs.Mat3RowMajor as mat3
use Rattle.plate_bending.specs.Bending as bend
use Rattle.plate_shear.specs.Shear as shear
use Rattle.plate.specs.Plate as plates
use Rattle.mitc_tri3.specs.Plate as mitc
use Rattle.mitc_tri3.specs.Masses.{bad_input_of, none_turned, number_of, buffer_of}
use Rattle.masses.specs.Masses.{mass_of, add_masses, add_all, masses_of}
use Rattle.edges.specs.Edges as edges
use Rattle.strain.specs.Strain as strain
use Rattle.stvk.specs.Stvk as energy
use Rattle.stvk_tri3.specs.Strain as strains
use Rattle.stvk_tri3.specs.Stvk as stvks
use Rattle.bending.specs.Bending as bending
use Rattle.quadratic_bending.specs.Bending as quadratic
use Rattle.examples.specs.Words.{double, +0, +1, +2}
use Rattle.examples.specs.Table.{Hold, p, u, plate, p0, p1, stvk, table_of, table}

-- Examples 8 and 9 take all 91 values for the number alone, and each value takes the number: so the number is computed once, and then put in its place.
plate_accepted : (plate +2).number ≡ accepted
unfolding plate sub mul div of_bits every tabled each fold root_of first_of kernel_number bad_energy_of energy_of vec3.over_of coords.contravariant_of
    coords.inverse_of mat3.mult_vec_of bend.bending_of bend.t0s bend.dstrain_of bend.w_of bend.dw_of bend.ddw_of
    shear.shear_of shear.rs shear.ss shear.dstrain_of shear.w_of shear.dw_of shear.ddw_of
    plates.gd_of edges.gu_gu_of plates.gu_of plates.state_of plates.accumulated_of plates.w_of plates.dw_of plates.ddw_of edges.plane_of zero_divisor_of material.is_finite_of material.lame_of material.is_bad_of material.tested_of tri2.is_right_of tri2.turn_of lt plates.w_dw_ddw_plate_bending_of mitc.tests_of mitc.plate_of
plate_accepted = refl

plate_refused : (plate +0).number ≡ zero_divisor
unfolding plate sub mul div of_bits first_of kernel_number energy_of vec3.over_of coords.contravariant_of coords.inverse_of plates.gd_of plates.gu_of
    plates.state_of edges.plane_of zero_divisor_of material.is_finite_of material.lame_of material.is_bad_of material.tested_of tri2.is_right_of tri2.turn_of lt plates.w_dw_ddw_plate_bending_of mitc.tests_of mitc.plate_of
plate_refused = refl

stvk_accepted : stvk.number ≡ accepted
unfolding stvk sub mul div of_bits every tabled each root_of first_of kernel_number bad_energy_of energy_of vec3.norm_of vec3.over_of vec3.unit_of tri3.normal_of
    tri3.unit_normal_area_of coords.contravariant_of mat3.mult_vec_of edges.space_of edges.glstrain_of zero_divisor_of energy.at_of energy.along_of energy.rest_of energy.glstrain_of
    energy.gugu0_of energy.elasticity_tensor_of energy.state_of energy.w_of energy.dndr_of energy.dw_at_of energy.dw_of energy.dtmp0_of energy.row_of energy.block_of energy.ddw_of
    energy.wdwddw_of material.is_finite_of material.lame_of material.is_bad_of material.tested_of stvks.tests_of stvks.stvk_of
stvk_accepted = refl

abbrev plate_as : (thk n : ℕ) → EnergyGiven
plate_as thk n =
    let s = plates.state_of binary64 p u (double thk) (double +0) (double +1) in
    energy_of binary64 n (plates.w_of binary64 s) (plates.dw_of binary64 s) (plates.ddw_of binary64 s)

plate_as_lem : (thk : ℕ) {n : ℕ} → (plate thk).number ≡ n → plate thk ≡ plate_as thk n
unfolding plate material.lame_of mitc.plate_of plates.w_dw_ddw_plate_bending_of energy_of
plate_as_lem thk is = ap (plate_as thk) is

abbrev stvk_as : (n : ℕ) → EnergyGiven
stvk_as n =
    let s = energy.state_of binary64 p0 p1 (double +0) (double +1) in
    energy_of binary64 n (energy.w_of binary64 s) (energy.dw_of binary64 s) (energy.ddw_of binary64 s)

stvk_as_lem : {n : ℕ} → stvk.number ≡ n → stvk ≡ stvk_as n
unfolding stvk material.lame_of stvks.stvk_of energy.wdwddw_of energy_of
stvk_as_lem is = ap stvk_as is

numbers_given : Hold (table_of (plate_as +2 accepted) (plate_as +0 zero_divisor) (stvk_as accepted))
unfolding table_of sub mul div of_bits to_bits every tabled each fold fold_threes root_of root_word_of first_of kernel_number energy_of within_limits vec3.norm_of vec3.over_of vec3.unit_of
    tri3.normal_of tri3.area_of tri3.unit_normal_area_of edge.length_of coords.contravariant_of coords.inverse_of mat3.mult_vec_of
    bend.bending_of bend.t0s bend.w_of shear.shear_of shear.rs shear.ss shear.w_of plates.gd_of
    edges.gu_gu_of plates.gu_of plates.state_of plates.accumulated_of plates.w_of add_vertex add_triangle corners_at bad_length_of named_finite bad_input_of triangles map_threes none_turned tri2.is_right_of tri2.turn_of lt mass_of add_masses add_all masses_of
    number_of buffer_of left_of zero_divisor_of edges.plane_of edges.space_of edges.glstrain_of strain.rest_of strain.gugu0_of strain.w_of strain.hoge_of strain.dw_k_of strain.dw_of strain.values_of strain.rest_of_green_lagrange strains.tested_of strains.tests_of strains.strain_of strains.answer_of energy.at_of energy.along_of
    energy.rest_of energy.glstrain_of energy.gugu0_of energy.elasticity_tensor_of energy.state_of energy.w_of energy.dndr_of energy.dw_at_of energy.dw_of quadratic.is_finite_of
    material.lame_of bending.divisors_of bending.k_of bending.w_of bending.dwdp_of bending.wdw_of quadratic.tests_of quadratic.bending_of quadratic.answer_of
numbers_given = refl

-- THE theorem of the marked examples
pub examples_hold : Hold table
examples_hold = rw (plate_as_lem +2 plate_accepted, plate_as_lem +0 plate_refused, stvk_as_lem stvk_accepted) numbers_given
