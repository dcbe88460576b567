use Rattle.std.proofs.Common.{take}
use Rattle.lid_base.specs.Lists.{Among}
use Rattle.lid_check_elab.specs.Parts.{AreSizes}
use Rattle.lid_check_elab.proofs.sizes.find_sizes.Given as goal

abbrev pub invariant-loop-model : goal.invariant-loop-model
invariant-loop-model l = AreSizes l.judged (λ k. Among k (take l.model-index l.order)) l.sizes.items
