use Rattle.std.proofs.Common.{take}
use Rattle.std.specs.List.{list_any}
use Rattle.lid_check_names.specs.Names.{texts}
use Rattle.lid_check_hierarchy.specs.Clocks.{GrowsBy, inst_binds, in_sets}
use Rattle.lid_check_hierarchy.proofs.clocks.add_all_bound.Given as goal

abbrev pub invariant-loop-i : goal.invariant-loop-i
invariant-loop-i l = GrowsBy (λ net. list_any (inst_binds l.uses (in_sets l.sets) net) (take l.i l.insts)) (texts l.fn.list.items) (texts l.list.items)
