-- `same`: the bytes that are left compare with the file from here on as all of them do from `at`.
use Rattle.std.proofs.Common.{◌≡◌, drop}
use Rattle.mesh.specs.Items.{same}
use Rattle.mesh.proofs.same.Given as goal

abbrev pub invariant-loop-b : goal.invariant-loop-b
invariant-loop-b l = same 0 l.start (drop l.b-index l.w) l.here (drop l.here l.file) ≡ same 0 l.start l.w l.at (drop l.at l.file)
