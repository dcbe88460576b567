use Rattle.std.proofs.Common.{◌≡◌, ◌++◌, drop}
use Rattle.lid_check_hierarchy.proofs.nets.find_tables.Given as goal

abbrev pub invariant-loop-model : goal.invariant-loop-model
invariant-loop-model l = l.tables.items ++ drop l.model-index l.models ≡ l.models
