use Rattle.std.proofs.Common.{◌≡◌, ◌++◌, drop}
use Rattle.lid_check_hierarchy.specs.Nets.{places_of_false}
use Rattle.lid_check_hierarchy.proofs.nets.list_unmarked.Given as goal

abbrev pub invariant-loop-k : goal.invariant-loop-k
invariant-loop-k l = l.numbers.items ++ places_of_false l.k (drop l.k l.marks) ≡ places_of_false 0 l.marks
