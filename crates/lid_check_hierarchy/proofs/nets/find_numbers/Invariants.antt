use Rattle.std.proofs.Common.{◌≡◌, ◌++◌, map, drop}
use Rattle.lid_check_hierarchy.specs.Nets.{places_of_false}
use Rattle.lid_check_hierarchy.proofs.nets.find_numbers.Given as goal

abbrev pub invariant-loop-row : goal.invariant-loop-row
invariant-loop-row l = l.numbers.items ++ map (places_of_false 0) (drop l.row-index l.marks) ≡ map (places_of_false 0) l.marks
