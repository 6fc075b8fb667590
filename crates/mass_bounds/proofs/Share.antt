-- A triangle's shares are finite and near the exact ones: from the exact area on, each product and quotient stays so far from both ends of the
-- format's range that the next one neither overflows nor loses digits.
use mathlib.Core.Path.{◌≡◌, ap, ◌∙◌}
use Prim.Native.Nat.{ℕ, zero, suc, ◌+◌, ◌*◌, ◌^◌, ◌≤◌, ◌<◌}
use native.Mathlib.Nat.{mul-le-mul_right, mul-pos, le_refl, le_trans, le_of_lt, lt_of_lt_of_le, pow-zero, pow-suc}
use native.Mathlib.Omega.{arith}
use lib.Dec.{T, leb, lit≤}
use lib.Pow.{pow-add, pow_pos, pow_mono}
use lib.Ieee.{Float, Format, binary32, binary64, prec, emax, low}
use lib.Ieee.Positive.{first_pos}
use Rattle.float.specs.Ops.{ops}
use Rattle.rounding.specs.Exact.{Num, ◌⊠◌, size_of, mag, value}
use Rattle.rounding.specs.Whole.{unit}
use Rattle.rounding.proofs.Num.{size_equal, size_scale, product_assoc}
use Rattle.rounding.proofs.Chain.{near_exact, at_least_multiple}
use Rattle.rounding.proofs.Margin.{Between, Safe, safe_mul, safe_div}
use Rattle.rounding.proofs.Whole.{three_dyad, twelve_dyad}
use Rattle.del_geo_core.specs.Tri2.{area_of}
use Rattle.del_geo_core.specs.Tri2.{Tri2}
use Rattle.masses.specs.Masses.{mass_of}
use Rattle.masses.specs.Vertex.{share_of}
use Rattle.mass_bounds.specs.Shares.{twice_area, weight, exact_share, over}
use Rattle.mass_bounds.specs.Bounds.{roundings}
use Rattle.mass_bounds.proofs.Premises.{Corners}
use Rattle.mass_bounds.proofs.Area.{AreaOf, area_exact}

-- the room that a format needs for coordinates up to B, density and thickness between 1 / R and R, and N names: twice an area is a whole number of its digits,
-- the second order of N + 6 roundings is less than one, and N shares, the largest there can be, don't overflow
pub record Margins (f : Format) (B R N : ℕ) : Type 0 where
  pub wide : (B + B) * (B + B) + (B + B) * (B + B) < 2 ^ prec f
  pub few : (N + 6) * (N + 6) ≤ 2 ^ prec f
  pub high : 2 ^ prec f * ((N + 6) * (144 * (R * R * R * R))) ≤ 2 ^ suc (emax f)

-- there is more room below 1 than above
deep : (f : Format) → suc (emax f) ≤ low f
deep binary32 = lit≤ tt
deep binary64 = lit≤ tt

module _ (f : Format) where
  open ops f use {◌⊗◌, ◌⊘◌, three, twelve}

  infixl 80 ◌⊗◌ ◌⊘◌
  abbrev P : ℕ
  P = 2 ^ prec f

  abbrev L : ℕ
  L = unit f

  L+ : 0 < L
  L+ = pow_pos (low f)

  -- the area, with any margin that leaves room for it
  safe_area : (M : ℕ) → 0 < M → P * (4 * M) ≤ 2 ^ suc (emax f) → (p : Tri2) → AreaOf f p → Safe f M 0 (2 * L) (area_of f p.p0 p.p1 p.p2) (twice_area f p)
  safe_area M M+ h p a =
      let size : size_of (twice_area f p) ≡ L * L * size_of a.ones = size_equal _ _ a.is ∙ size_scale (L * L) a.ones in
      record {
        some = M+;
        fine = a.number.fine;
        chain = near_exact a.number.fit (mul-pos (lit≤ tt) L+) a.exact (le_refl (size_of (twice_area f p)));
        above = λ q. le_trans (up P L (le_trans h (pow_mono (deep f)))) (at_least_multiple (L * L) (twice_area f p) a.ones a.is q);
        below = rw (size, pow-add 2 (low f) (suc (emax f))) (down P L (2 ^ suc (emax f)) (size_of a.ones) (le_of_lt a.few) h);
      }
    where
      up : (p l : ℕ) → p * (4 * M) ≤ l → p * (M * (2 * l)) ≤ l * l
      up p l h = omega (arith, mul-le-mul_right l h)

      down : (p l e n : ℕ) → n ≤ p → p * (4 * M) ≤ e → l * l * n * (8 * M) ≤ l * e * (2 * l)
      down p l e n g h = omega (arith, mul-le-mul_right (l * l * 8 * M) g, mul-le-mul_right (2 * l * l) h)

  module _ {B R N : ℕ} (m : Margins f B R N) (thick rho : Float) (t : Between f R thick) (r : Between f R rho) (p : Tri2) (corners : Corners f B p) where
    abbrev a012 : Float
    a012 = area_of f p.p0 p.p1 p.p2

    small : {n : ℕ} → T (leb n 36) → n ≤ P
    small t = le_trans (lit≤ t) (le_trans (omega arith) m.few)

    R+ : 0 < R
    R+ = first_pos R (mag f rho) (lt_of_lt_of_le L+ r.least)

    -- m0, with any margin that leaves room for its three steps; m1 is m0 and three steps more
    translation : (M : ℕ) → 0 < M → P * (4 * (M * R * R * 3)) ≤ 2 ^ suc (emax f)
        → Safe f M 3 (L * (L * (3 * (2 * L)))) (a012 ⊘ three ⊗ rho ⊗ thick) (twice_area f p ⊠ value f rho ⊠ value f thick)
    translation M M+ h =
        safe_mul f thick (small tt) t (safe_mul f rho (small tt) r
        (safe_div f three (small tt) (lit≤ tt) (three_dyad f) (safe_area (M * R * R * 3) (mul-pos (mul-pos (mul-pos M+ R+) R+) (lit≤ tt)) h p (area_exact f B m.wide p corners))))

    rotation : Safe f (N + 6) 6 (over f 1) (a012 ⊘ three ⊗ rho ⊗ thick ⊗ thick ⊗ thick ⊘ twelve) (exact_share f 1 thick rho p)
    unfolding exact_share weight
    rotation =
        rw (five L, regroup (twice_area f p) (value f rho) (value f thick)) at
        (safe_div f twelve (small tt) (lit≤ tt) (twelve_dyad f) (safe_mul f thick (small tt) t (safe_mul f thick (small tt) t
        (translation ((N + 6) * 12 * R * R) (mul-pos (mul-pos (mul-pos (omega arith) (lit≤ tt)) R+) R+) (le_trans (omega arith) m.high)))))
      where
        five : (l : ℕ) → 12 * (l * (l * (l * (l * (3 * (2 * l)))))) ≡ 72 * l ^ 5
        five l = rw (pow-suc l 4, pow-suc l 3, pow-suc l 2, pow-suc l 1, pow-suc l 0, pow-zero l) (omega arith)

        regroup : (a b c : Num) → a ⊠ b ⊠ c ⊠ c ⊠ c ≡ a ⊠ (b ⊠ (c ⊠ c ⊠ c))
        regroup a b c = ap (λ (z : Num). z ⊠ c) (product_assoc (a ⊠ b) c c) ∙ product_assoc (a ⊠ b) (c ⊠ c) c ∙ product_assoc a b (c ⊠ c ⊠ c)

    -- ---- THE law of one share
    pub share_safe : (k : ℕ) → Safe f (N + 6) (roundings k) (over f k) (share_of f k thick rho p) (exact_share f k thick rho p)
    unfolding mass_of exact_share weight
    share_safe zero =
        rw (cube L, product_assoc (twice_area f p) (value f rho) (value f thick)) at (translation (N + 6) (omega arith) (le_trans (go P (N + 6) (mul-pos R+ R+)) m.high))
      where
        cube : (l : ℕ) → l * (l * (3 * (2 * l))) ≡ 6 * l ^ 3
        cube l = rw (pow-suc l 2, pow-suc l 1, pow-suc l 0, pow-zero l) (omega arith)

        go : (q n : ℕ) → 0 < R * R → q * (4 * (n * R * R * 3)) ≤ q * (n * (144 * (R * R * R * R)))
        go q n h = omega (arith, mul-le-mul_right (q * n * R * R * 12) h)
    share_safe (suc zero) = rotation
    share_safe (suc (suc k)) = rotation
