-- No second answer fits: one whole number is nearest to a root, for no tie comes up.
use Rattle.std.proofs.Common.{◌≡◌, ℕ, ◌+◌, ◌-◌, ◌*◌, ◌^◌, ◌<◌, ◌≤◌, mul-le-mul, arith}
use Rattle.whole_root.specs.Whole.{Close, evened_of}

no_two : (n R S : ℕ) → Close n R → Close n S → R < S → ⊥
no_two n R S c d h = let l : 2 * R + 1 ≤ 2 * S - 1 = omega arith in omega (arith, c.upper, d.lower, mul-le-mul l l)

pub one_nearest : (n R S : ℕ) → Close n R → Close n S → R ≡ S
one_nearest n R S c d =
    let p : R < S → ⊥ = no_two n R S c d in
    let q : S < R → ⊥ = no_two n S R d c in
    omega arith

pub nearest_root_lem : (m u : ℕ) {r q : ℕ} → Close (evened_of m u * 2 ^ 52) r → Close (evened_of m u * 2 ^ 52) q → r ≡ q
nearest_root_lem m u c d = one_nearest _ _ _ c d
