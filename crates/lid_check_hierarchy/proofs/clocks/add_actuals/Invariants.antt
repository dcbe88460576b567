use Rattle.std.proofs.Common.{take}
use Rattle.lid_design.specs.Columns.{is_among}
use Rattle.lid_check_names.specs.Names.{texts}
use Rattle.lid_check_hierarchy.specs.Clocks.{GrowsBy, binds_to}
use Rattle.lid_check_hierarchy.proofs.clocks.add_actuals.Given as goal

abbrev pub invariant-loop-bind : goal.invariant-loop-bind
invariant-loop-bind l = GrowsBy (λ net. binds_to (λ formal. is_among formal l.formals) net (take l.bind-index l.binds)) (texts l.fn.list.items) (texts l.list.items)
