use Rattle.std.proofs.Common.{◌≡◌, ◌++◌, drop}
use Rattle.lid_check_hierarchy.specs.Graphs.{places_of_true}
use Rattle.lid_check_hierarchy.proofs.uses.list_marked.Given as goal

abbrev pub invariant-loop-k : goal.invariant-loop-k
invariant-loop-k l = l.numbers.items ++ places_of_true l.k (drop l.k l.marks) ≡ places_of_true 0 l.marks
