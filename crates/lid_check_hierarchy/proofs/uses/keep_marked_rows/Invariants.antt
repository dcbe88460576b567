use Rattle.std.proofs.Common.{◌≡◌, ◌++◌, drop}
use Rattle.lid_check_hierarchy.specs.Graphs.{kept}
use Rattle.lid_check_hierarchy.proofs.uses.keep_marked_rows.Given as goal

abbrev pub invariant-loop-k : goal.invariant-loop-k
invariant-loop-k l = l.graph ++ kept (drop l.k l.marks) (drop l.k l.numbers) ≡ kept l.marks l.numbers
