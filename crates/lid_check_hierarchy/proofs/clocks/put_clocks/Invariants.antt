use Rattle.std.proofs.Common.{take}
use Rattle.lid_check_hierarchy.specs.Clocks.{HaveClocks}
use Rattle.lid_check_hierarchy.proofs.clocks.put_clocks.Given as goal

abbrev pub invariant-loop-model : goal.invariant-loop-model
invariant-loop-model l = HaveClocks l.uses (take l.model-index l.order) l.sets.items
