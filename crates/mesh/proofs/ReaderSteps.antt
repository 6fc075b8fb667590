-- The reader's answer, step by step: a file is read where each of four parts is taken and nothing is left, and is refused where the first of them stops that does.
use mathlib.Core.Path.{◌≡◌, refl}
use mathlib.Core.List.{List, [], ◌∷◌}
use Prim.Native.Nat.{ℕ}
use lib.ListN.{drop}
use Rattle.std.specs.Prelude.{Result, Ok, Err}
use Rattle.mesh.specs.Items.{Step, end, after}
use Rattle.mesh.specs.Mesh.{mesh, points_from, cells_from, types_from, end_from, mesh_of}
use Rattle.mesh.specs.declared.Mesh.{Mesh}
use Rattle.mesh.proofs.Item.{never}
use Rattle.mesh.proofs.After.{after_bad, after_taken, after_refused}
use Rattle.mesh.proofs.ReaderParts.{head_from, points_from_lem, fives_from, file_from}

end_taken : (at v a : ℕ) (s : List ℕ) → end at s ≡ Ok (v, a) → s ≡ []
unfolding end
end_taken at v a [] e = refl
end_taken at v a (c ∷ s) e = never e

module _ (f : List ℕ) where
  pub record Steps (r : Mesh) : Type 0 where
    pub to_points : points_from f ≡ Ok (r.n, r.points)
    pub to_cells : cells_from f r.n r.points ≡ Ok (r.m, r.cells)
    pub v : ℕ
    pub to_types : types_from f r.n r.m r.cells ≡ Ok (v, r.types)
    pub x : ℕ
    pub last : ℕ
    pub to_last : fives_from f r.m r.types ≡ Ok (x, last)
    pub no_more : drop last f ≡ []

  module _ (r : Mesh) where
    -- the values and places of four steps are those of the answer
    as_read : (n m points cells types v x last : ℕ) → points_from f ≡ Ok (n, points) → cells_from f n points ≡ Ok (m, cells) → types_from f n m cells ≡ Ok (v, types)
        → fives_from f m types ≡ Ok (x, last) → drop last f ≡ [] → ◌≡◌ {A = Result Mesh ℕ} (Ok (mesh n m points cells types)) (Ok r) → Steps r
    as_read n m points cells types v x last e1 e2 e3 e4 none same =
        let is : mesh n m points cells types ≡ r = cc in
        rw (← is) (record { to_points = e1; to_cells = e2; v = v; to_types = e3; x = x; last = last; to_last = e4; no_more = none })

    pub steps : mesh_of f ≡ Ok r → Steps r
    unfolding mesh_of end_from
    steps e =
        let (n, points, e1, r1) = after_taken (points_from f) _ r e in
        let (m, cells, e2, r2) = after_taken (cells_from f n points) _ r r1 in
        let (v, types, e3, r3) = after_taken (types_from f n m cells) _ r r2 in
        let (y, b, e4, r4) = after_taken (end_from f m types) _ r r3 in
        let (x, last, e5, ends) = after_taken (fives_from f m types) _ (y, b) e4 in
        as_read n m points cells types v x last e1 e2 e3 e5 (end_taken last y b (drop last f) ends) r4

    pub read_on : Steps r → mesh_of f ≡ Ok r
    unfolding mesh_of end_from after end
    read_on s = rw (s.to_points, s.to_cells, s.to_types, s.to_last, s.no_more)

  abbrev pub end_at : (v at : ℕ) → Step
  end_at v at = end at (drop at f)

  pub refused_at : (place : ℕ) → after (file_from f 0) end_at ≡ Err place → mesh_of f ≡ Err place
  unfolding mesh_of end_from
  refused_at place e =
      rw (points_from_lem f)
      (after_refused place (head_from f 0) _ end_at _ (λ n a. after_refused place (cells_from f n a) _ end_at _
      (λ m b. after_refused place (types_from f n m b) _ end_at _ (λ _ c. after_bad (end_from f m c) _ place))) e)
