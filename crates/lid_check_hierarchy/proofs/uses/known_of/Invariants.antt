use Rattle.std.proofs.Common.{◌≡◌, ◌++◌, drop}
use Rattle.lid_check_hierarchy.specs.Graphs.{some_of}
use Rattle.lid_check_hierarchy.proofs.uses.known_of.Given as goal

abbrev pub invariant-loop-number : goal.invariant-loop-number
invariant-loop-number l = l.known.items ++ some_of (drop l.number-index l.row) ≡ some_of l.row
