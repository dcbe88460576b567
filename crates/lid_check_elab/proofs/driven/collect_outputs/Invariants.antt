use Rattle.std.proofs.Common.{◌≡◌, ◌++◌, drop}
use Rattle.lid_check_elab.specs.Parts.{output_sets}
use Rattle.lid_check_elab.proofs.driven.collect_outputs.Given as goal

abbrev pub invariant-loop-model : goal.invariant-loop-model
invariant-loop-model l = l.sets.items ++ output_sets (drop l.model-index l.models) ≡ output_sets l.models
