-- `numbers`: the numbers that are left, read in what is left of the file, answer what all of them do from `at`.
use Rattle.std.proofs.Common.{◌≡◌, ◌+◌, ◌-◌, ◌*◌, length, drop}
use Rattle.mesh.specs.Items.{numbers}
use Rattle.mesh.proofs.numbers.Given as goal

abbrev pub invariant-loop-i : goal.invariant-loop-i
invariant-loop-i l = record {
  left : l.at + 4 * l.i + length l.rest ≡ length l.file;
  answer : numbers l.rule 4 (l.k - l.i) l.i (l.at + 4 * l.i) l.rest ≡ numbers l.rule 4 l.k 0 l.at (drop l.at l.file);
}
