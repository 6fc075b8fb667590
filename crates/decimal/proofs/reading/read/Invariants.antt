-- `read` meets its contract: at each turn, the bytes from here on give after those so far what the text gives.
use Rattle.std.proofs.Common.{min}
use Rattle.decimal.proofs.Scans.{Left}
use Rattle.decimal.proofs.reading.read.Given as goal

abbrev pub invariant-loop-at : goal.invariant-loop-at
invariant-loop-at l = Left (min l.fn.up 8) (min l.fn.down 8) l.text l.m l.left l.since l.pointed l.at
