use Rattle.std.proofs.Common.{◌≡◌, ◌++◌, drop}
use Rattle.lid_check_hierarchy.specs.Nets.{counts_of_false}
use Rattle.lid_check_hierarchy.proofs.nets.count_unmarked.Given as goal

abbrev pub invariant-loop-mark : goal.invariant-loop-mark
invariant-loop-mark l = l.places.items ++ counts_of_false l.count (drop l.mark-index l.marks) ≡ counts_of_false 0 l.marks
