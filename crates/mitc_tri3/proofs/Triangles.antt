-- The triangle at place k, in the list from k * 3 on: its names are vertices', whether it and those behind it turn right, and what it adds.
use mathlib.Core.Path.{◌≡◌}
use mathlib.Core.Bool.{true, not, ◌&&◌}
use mathlib.Core.List.{List, []}
use Prim.Native.Nat.{ℕ, ◌+◌, ◌*◌, ◌/◌, ◌%◌, ◌≤◌, ◌<◌}
use native.Mathlib.Omega.{arith}
use lib.Ieee.{Float, binary64}
use lib.ListN.{length, drop, get_or}
use Rattle.std.specs.Simd.{first_chunks}
use Rattle.float.proofs.Chunks.{at_chunk}
use Rattle.float.proofs.Fold.{every_threes_done, every_threes_step, threes_done, threes_step}
use Rattle.refusal.specs.Panel.{names_below}
use Rattle.refusal.proofs.Panel.{Three, at_three}
use Rattle.del_geo_core.specs.Tri2.{turns_right}
use Rattle.masses.specs.Masses.{add_masses, add_all}
use Rattle.places.specs.Plane.{vertices_of, corners_at, triangles}
use Rattle.mitc_tri3.specs.Masses.{none_turned}

module _ (tri : List ℕ) (xy : List Float) (threes : length tri % 3 ≡ 0) where
  -- none is left
  pub turned_done : (k : ℕ) → length tri / 3 ≤ k → none_turned binary64 (drop (k * 3) tri) xy ≡ true
  unfolding triangles none_turned
  turned_done k past = every_threes_done (corners_at xy) _ tri (k * 3) (omega arith)

  pub added_done : (k : ℕ) → length tri / 3 ≤ k → (thick rho : Float) (mass : List Float) → add_all binary64 (drop (k * 3) tri) xy thick rho mass ≡ mass
  unfolding add_all
  added_done k past thick rho mass = threes_done _ tri (k * 3) mass (omega arith)

  module _ (below : names_below (vertices_of xy) tri ≡ true) (chunks : List (List ℕ)) (front : chunks ≡ first_chunks 3 (length tri / 3) tri) (k : ℕ) (less : k < length tri / 3) where
    in_list : Three (vertices_of xy) tri (k * 3)
    in_list = at_three _ _ threes below (k * 3) (omega arith) (omega arith)

    abbrev name : ℕ → ℕ
    name i = get_or (get_or chunks k []) i 0

    pub three : (name 0 < vertices_of xy) × (name 1 < vertices_of xy) × (name 2 < vertices_of xy)
    three = rw (at_chunk chunks tri k 0 front less) (in_list.first, in_list.second, in_list.third)

    pub turned_next : none_turned binary64 (drop (k * 3) tri) xy ≡ (not (turns_right binary64 (corners_at xy (name 0) (name 1) (name 2))) && none_turned binary64 (drop ((k + 1) * 3) tri) xy)
    unfolding triangles none_turned
    turned_next =
        let step : (k + 1) * 3 ≡ k * 3 + 3 = omega arith in
        rw (step, at_chunk chunks tri k 0 front less) (every_threes_step (corners_at xy) _ tri (k * 3) 0 in_list.inside)

    pub added_next : (thick rho : Float) (mass : List Float)
        → add_all binary64 (drop ((k + 1) * 3) tri) xy thick rho (add_masses binary64 xy thick rho mass (name 0) (name 1) (name 2)) ≡ add_all binary64 (drop (k * 3) tri) xy thick rho mass
    unfolding add_all
    added_next thick rho mass =
        let step : (k + 1) * 3 ≡ k * 3 + 3 = omega arith in
        rw (step, at_chunk chunks tri k 0 front less) (threes_step (add_masses binary64 xy thick rho) tri (k * 3) 0 mass in_list.inside)
