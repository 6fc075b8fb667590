-- A pattern taken apart and put together, over the format: its two fields give the digits and the power of two.
use mathlib.Core.Path.{◌≡◌, ap, ◌∙◌}
use mathlib.Core.Bool.{false}
use Prim.Native.Nat.{ℕ, suc, ◌+◌, ◌-◌, ◌*◌, ◌/◌, ◌%◌, ◌^◌, ◌≤◌, ◌<◌}
use native.Mathlib.Nat.{mod-lt, div-lt_iff_lt-mul, div-add-mod', zero-add, add_comm}
use native.Mathlib.Omega.{arith}
use lib.Pow.{pow-add, pow_pos}
use lib.Ieee.{Float, Format, prec, low, hid, ones, of_bits}
use lib.Ieee.Exact.{HasValue}
use lib.Ieee.Fits.{two, reach}
use Rattle.float.proofs.Value.{rescale}
use Rattle.float.proofs.Patterns.{lift, normal_value, subnormal_value}
use Rattle.root.specs.Steps.{Unpacked}

pub unpack_subnormal : (f : Format) (g b m u : ℕ) → b < hid f → hid f ≤ m → m < 2 * hid f → u ≤ g → m * 2 ^ u ≡ b * 2 ^ g → Unpacked f g b m u
unpack_subnormal f g b m u h from below most e = record {
  from = from;
  below = below;
  most = omega (arith, two f, reach f);
  value = rw e (rw (zero-add g) at (lift (of_bits f b) false b 0 (low f) g (subnormal_value f b h)));
}

pub unpack_normal : (f : Format) (g b : ℕ) → 1 ≤ g → (b / hid f ≡ 0 → ⊥) → b < ones f * hid f → Unpacked f g b (b % hid f + hid f) (b / hid f + (g - 1))
unpack_normal f g b G e h =
    let q = b / hid f in
    let t = b % hid f in
    let H : 0 < hid f = pow_pos (prec f - 1) in
    let in-t : t < hid f = mod-lt b H in
    let in-q : q < ones f = (div-lt_iff_lt-mul H).1 h in
    let s : suc (q - 1) ≡ q = omega arith in
    let k : q - 1 + g ≡ q + (g - 1) = omega arith in
    let v = lift (of_bits f (suc (q - 1) * hid f + t)) false (hid f + t) (q - 1) (low f) g (normal_value f (q - 1) t (omega arith) in-t) in
    record {
      from = omega arith;
      below = omega arith;
      most = omega arith;
      value = rw (k, add_comm (hid f) t, ap (λ (z : ℕ). z * hid f + t) s ∙ div-add-mod' b (hid f)) at v;
    }

pub pack_value : (f : Format) (n j : ℕ) → hid f ≤ n → n < 2 * hid f → suc j < ones f → HasValue (of_bits f (j * hid f + n)) false (n * 2 ^ j) (2 ^ low f)
pack_value f n j a b x =
    let t = n - hid f in
    let e : hid f + t ≡ n = omega arith in
    let w : suc j * hid f + t ≡ j * hid f + n = omega arith in
    rw (w, e) at (normal_value f j t x (omega arith))

-- m * 2 ^ u / 2 ^ l as a whole number times a square, d binary digits more on both sides
pub squared : (x : Float) (m u l d : ℕ) → HasValue x false (m * 2 ^ u) (2 ^ l) → HasValue x false (m * 2 ^ (u % 2) * 2 ^ d * 2 ^ (2 * (u / 2))) (2 ^ (l + d))
squared x m u l d v =
    let e : u % 2 + 2 * (u / 2) ≡ u = omega arith in
    let p : 2 ^ u ≡ 2 ^ (u % 2) * 2 ^ (2 * (u / 2)) = rw e at (pow-add 2 (u % 2) (2 * (u / 2))) in
    rescale x false (m * 2 ^ u) (2 ^ l) _ (2 ^ (l + d)) (pow_pos l) (omega (arith, ap (λ (z : ℕ). m * z * 2 ^ d * 2 ^ l) p, ap (λ (z : ℕ). m * 2 ^ u * z) (pow-add 2 l d))) v
