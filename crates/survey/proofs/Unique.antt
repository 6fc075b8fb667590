-- No second answer fits: each statement says what the answer is, or which place is the first.
use Rattle.std.proofs.Common.{◌≡◌, List, Option, ℕ}
use Rattle.survey.specs.Survey.{IsOutside, IsOffPlane, IsTurned}
use Rattle.survey.proofs.First as first

pub outside : (points : List ℕ) {r q : Option ℕ} → IsOutside points r → IsOutside points q → r ≡ q
outside points {r} {q} = first.unique _ _ r q

pub off_plane : (points : List ℕ) {r q : Option ℕ} → IsOffPlane points r → IsOffPlane points q → r ≡ q
off_plane points {r} {q} = first.unique _ _ r q

pub turned : (points cells : List ℕ) {r q : Option ℕ} → IsTurned points cells r → IsTurned points cells q → r ≡ q
turned points cells {r} {q} = first.unique _ _ r q
