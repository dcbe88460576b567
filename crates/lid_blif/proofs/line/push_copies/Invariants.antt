use Rattle.std.proofs.Common.{◌≡◌, ◌++◌, drop}
use Rattle.lid_blif.proofs.line.push_copies.Given as goal

abbrev pub invariant-loop-at : goal.invariant-loop-at
invariant-loop-at l = l.into.items ++ drop l.at l.words ≡ l.fn.into.items ++ l.words
