use Rattle.std.proofs.Common.{◌≡◌, ◌++◌, ℕ, List, length, drop}
use Rattle.lid_check_hierarchy.specs.Nets.{clock_marks_of_all, inputs_of_all}
use Rattle.lid_check_hierarchy.proofs.inputs.find_inputs.Given as goal

abbrev pub invariant-loop-k : goal.invariant-loop-k
invariant-loop-k l = (clocks : List (List (List ℕ))) → length clocks ≡ length l.tables → l.marks ≡ clock_marks_of_all l.tables clocks → l.inputs.items ++ inputs_of_all (drop l.k l.tables) (drop l.k clocks) ≡ inputs_of_all l.tables clocks
