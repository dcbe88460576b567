use Rattle.std.proofs.Common.{◌≡◌, ◌++◌, drop, map}
use Rattle.lid_check_hierarchy.specs.Graphs.{some_of}
use Rattle.lid_check_hierarchy.proofs.uses.graph_of.Given as goal

abbrev pub invariant-loop-row : goal.invariant-loop-row
invariant-loop-row l = l.graph ++ map some_of (drop l.row-index l.numbers) ≡ map some_of l.numbers
