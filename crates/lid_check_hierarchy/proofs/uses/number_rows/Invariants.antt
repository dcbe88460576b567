use Rattle.std.proofs.Common.{◌≡◌, ◌++◌, drop, map}
use Rattle.lid_check_hierarchy.specs.Graphs.{row_by}
use Rattle.lid_check_hierarchy.proofs.uses.number_rows.Given as goal

abbrev pub invariant-loop-model : goal.invariant-loop-model
invariant-loop-model l = l.rows.items ++ map (row_by l.names) (drop l.model-index l.models) ≡ map (row_by l.names) l.models
