-- The theorem of 01-scope 6.5: no test refuses a sheet of the family; each value, exact over 2 a^2, 2 b^2 or 2 a b, is the fraction that the columns of F give, and each derivative, exact over
-- a^2, b^2 or a b, the one that they and the slopes of the shape functions give.
use mathlib.Core.Path.{◌≡◌, refl}
use mathlib.Core.Bool.{true, false, not, ◌&&◌}
use mathlib.Core.List.{List}
use Prim.Native.Nat.{ℕ, ◌*◌, ◌^◌, ◌≤◌, ◌<◌}
use native.Mathlib.Nat.{mul-le-mul}
use native.Mathlib.Omega.{arith}
use lib.Dec.{lit<}
use lib.Pow.{pow_pos, pow_mono}
use lib.Ieee.{Float, Format, binary64}
use Rattle.float.specs.Lists.{every, all_finite}
use Rattle.float.proofs.Scan.{every_append}
use Rattle.refusal.specs.Refusal.{accepted}
use Rattle.corners.specs.Plane as plane
use Rattle.corners.specs.Space as space
use Rattle.del_geo_core.specs.Tri2.{Tri2}
use Rattle.del_geo_core.specs.Tri3.{Tri3}
use Rattle.strain.specs.Strain.{rest_of_green_lagrange, w_of, dw_of, values_of}
use Rattle.strain.specs.declared.Values.{Values}
use Rattle.stvk_tri3.specs.GreenLagrange.{IsGreenLagrange}
use Rattle.stvk_tri3.specs.Strain.{StrainGiven, tested_of, tests_of}
use Rattle.stvk_tri3.proofs.StrainAnswer.{numbers_exactly, accepted_values}
use Rattle.green_lagrange.specs.Book.{DeformationGradient, gradient, IsBookStrain}
use Rattle.green_lagrange.specs.Sheet.{most_doublings, largest_coordinate, is_rest, is_whole, InFamily}
use Rattle.green_lagrange.proofs.Axis.{first, second, third, first_by, second_by, third_by}
use Rattle.green_lagrange.proofs.Corners.{edge, corners}
use Rattle.green_lagrange.proofs.Factors.{gugu0}
use Rattle.green_lagrange.proofs.Fraction.{reads_sum, reads_minus, reads_product, reads_times, reads_half, is_fraction}
use Rattle.green_lagrange.proofs.Gradient.{Column, dot_reads, component_reads, column, slope_x_lem, slope_y_lem}
use Rattle.green_lagrange.proofs.Identity.{identity_xx, identity_yy, identity_xy}
use Rattle.green_lagrange.proofs.Places.{all_finite_lem, places}
use Rattle.green_lagrange.proofs.Vector.{e_x, e_y, e_z, good}
use Rattle.green_lagrange.proofs.Rest.{points, divisors}
use Rattle.green_lagrange.proofs.Values.{Margins, Component, xx, yy, xy}

module _ (f : Format) {i j B S : ℕ} (m : Margins f i j B S) (p_ini p_def : List (List Float)) {r : StrainGiven} (is : IsGreenLagrange f p_ini p_def r)
    (rest : is_rest f (2 ^ i) (2 ^ j) (plane.corners_of p_ini) ≡ true) (deformed : is_whole f B (space.corners_of p_def) ≡ true) where
  abbrev ini : Tri2
  ini = plane.corners_of p_ini

  abbrev def : Tri3
  def = space.corners_of p_def

  abbrev a : ℕ
  a = 2 ^ i

  abbrev b : ℕ
  b = 2 ^ j

  a+ : 0 < a
  a+ = pow_pos i

  b+ : 0 < b
  b+ = pow_pos j

  abbrev F : DeformationGradient
  F = gradient f a b def

  column_x : Column F.X (edge f def.p0 def.p1) a
  column_x = let c = corners f B def deformed in column f a a+ c.0 c.1

  column_y : Column F.Y (edge f def.p0 def.p2) b
  column_y = let c = corners f B def deformed in column f b b+ c.0 c.2

  x : Component f m ini rest def deformed (gugu0 f ini).xx e_x (a * a)
  x = xx f m ini rest def deformed

  y : Component f m ini rest def deformed (gugu0 f ini).yy e_y (b * b)
  y = yy f m ini rest def deformed

  z : Component f m ini rest def deformed (gugu0 f ini).xy e_z (a * b)
  z = xy f m ini rest def deformed

  inputs_good : not (plane.is_finite_of ini && space.is_finite_of def) ≡ false
  inputs_good =
      let p = points f i j m.small ini rest in
      let c = corners f B def deformed in
      rw (
        good p.0.0.number,
        good p.0.1.number,
        good p.1.0.number,
        good p.1.1.number,
        good p.2.0.number,
        good p.2.1.number,
        good c.0.x.number,
        good c.0.y.number,
        good c.0.z.number,
        good c.1.x.number,
        good c.1.y.number,
        good c.1.z.number,
        good c.2.x.number,
        good c.2.y.number,
        good c.2.z.number,
      )

  abbrev values : Values
  values = values_of f (rest_of_green_lagrange f ini) def

  answer_good : not (all_finite values.w && all_finite values.dw) ≡ false
  unfolding rest_of_green_lagrange values_of w_of dw_of every
  answer_good =
      rw (
        good x.is.number,
        good y.is.number,
        good z.is.number,
        every_append,
        every_append,
        all_finite_lem _ (λ c axis. good (x.by c axis).number),
        all_finite_lem _ (λ c axis. good (y.by c axis).number),
        all_finite_lem _ (λ c axis. good (z.by c axis).number),
      )

  accepts : r.number ≡ accepted
  unfolding tested_of tests_of
  accepts = (numbers_exactly f (rest_of_green_lagrange f) p_ini p_def is).accepted_exactly.1 (inputs_good, (refl, (refl, (divisors f i j m.small ini rest, (answer_good, tt)))))

  w_is : r.w ≡ values.w
  w_is = (accepted_values f (rest_of_green_lagrange f) p_ini p_def is accepts).0

  dw_is : r.dw ≡ values.dw
  dw_is = (accepted_values f (rest_of_green_lagrange f) p_ini p_def is accepts).1

  -- ---- THE law, over the format
  pub book : IsBookStrain f a b def r
  unfolding rest_of_green_lagrange values_of w_of
  book = record {
    accepts = accepts;
    xx = rw w_is (is_fraction f x.is (reads_half (reads_minus (dot_reads column_x column_x) (identity_xx (a * a)))) (first _ _ _));
    yy = rw w_is (is_fraction f y.is (reads_half (reads_minus (dot_reads column_y column_y) (identity_yy (b * b)))) (second _ _ _));
    xy = rw w_is (is_fraction f z.is (reads_times _ (reads_half (reads_minus (dot_reads column_x column_y) (identity_xy (a * b))))) (third _ _ _));
    dxx = λ c axis h k. rw (dw_is, (places _ _ _ c axis h k).0) (is_fraction f (x.by c axis) (reads_product (component_reads column_x axis) (slope_x_lem a b a+ b+ c)) (first_by _ _ _ _));
    dyy = λ c axis h k. rw (dw_is, (places _ _ _ c axis h k).1) (is_fraction f (y.by c axis) (reads_product (component_reads column_y axis) (slope_y_lem a b a+ b+ c)) (second_by _ _ _ _));
    dxy = λ c axis h k. rw (dw_is, (places _ _ _ c axis h k).2) (is_fraction f (z.by c axis)
        (reads_sum (reads_product (component_reads column_x axis) (slope_y_lem a b a+ b+ c)) (reads_product (slope_x_lem a b a+ b+ c) (component_reads column_y axis)))
        (third_by _ _ _ _));
  }

-- ---- THE theorem of 01-scope 6.5
margins : {i j : ℕ} → i ≤ most_doublings → j ≤ most_doublings → Margins binary64 i j largest_coordinate (2 ^ most_doublings * 2 ^ most_doublings)
margins h k = record {
  small = record { high = omega arith; deep = omega arith };
  a² = mul-le-mul (pow_mono h) (pow_mono h);
  b² = mul-le-mul (pow_mono k) (pow_mono k);
  strains = lit< tt;
  derivatives = lit< tt;
}

pub green_lagrange_lem : {i j : ℕ} (p_ini p_def : List (List Float)) {r : StrainGiven} → IsGreenLagrange binary64 p_ini p_def r
    → InFamily binary64 i j (plane.corners_of p_ini) (space.corners_of p_def) → IsBookStrain binary64 (2 ^ i) (2 ^ j) (space.corners_of p_def) r
green_lagrange_lem p_ini p_def is s = book binary64 (margins s.side_x s.side_y) p_ini p_def is s.rest s.deformed
