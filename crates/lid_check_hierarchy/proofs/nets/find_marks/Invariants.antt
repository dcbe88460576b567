use Rattle.std.proofs.Common.{◌≡◌, ◌++◌, drop}
use Rattle.lid_check_hierarchy.specs.Nets.{clock_marks_of_all}
use Rattle.lid_check_hierarchy.proofs.nets.find_marks.Given as goal

abbrev pub invariant-loop-k : goal.invariant-loop-k
invariant-loop-k l = l.marks.items ++ clock_marks_of_all (drop l.k l.tables) (drop l.k l.clocks) ≡ clock_marks_of_all l.tables l.clocks
