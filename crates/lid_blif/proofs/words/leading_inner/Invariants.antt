use Rattle.std.proofs.Common.{◌≡◌, ◌++◌, take, drop}
use Rattle.lid_blif.specs.Words.{leading, is_inner}
use Rattle.lid_blif.proofs.words.leading_inner.Given as goal

abbrev pub invariant-loop-at : goal.invariant-loop-at
invariant-loop-at l = take l.at l.lines ++ leading is_inner (drop l.at l.lines) ≡ leading is_inner l.lines
