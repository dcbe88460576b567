use Rattle.std.proofs.Common.{take}
use Rattle.lid_design.specs.Columns.{is_among}
use Rattle.lid_check_names.specs.Names.{texts}
use Rattle.lid_check_hierarchy.specs.Clocks.{GrowsBy}
use Rattle.lid_check_hierarchy.proofs.clocks.add_names.Given as goal

abbrev pub invariant-loop-name : goal.invariant-loop-name
invariant-loop-name l = GrowsBy (λ net. is_among net (take l.name-index l.names)) (texts l.fn.list.items) (texts l.list.items)
