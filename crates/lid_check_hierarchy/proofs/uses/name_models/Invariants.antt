use Rattle.std.proofs.Common.{◌≡◌, ◌++◌, drop, map}
use Rattle.lid_check_names.specs.Names.{texts}
use Rattle.lid_check_hierarchy.specs.Graphs.{name_of}
use Rattle.lid_check_hierarchy.proofs.uses.name_models.Given as goal

abbrev pub invariant-loop-model : goal.invariant-loop-model
invariant-loop-model l = texts l.names.items ++ map name_of (drop l.model-index l.models) ≡ map name_of l.models
