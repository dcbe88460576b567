use Rattle.std.proofs.Common.{take}
use Rattle.std.specs.List.{list_any}
use Rattle.lid_design.specs.Columns.{is_clocked_by}
use Rattle.lid_check_names.specs.Names.{texts}
use Rattle.lid_check_hierarchy.specs.Clocks.{GrowsBy}
use Rattle.lid_check_hierarchy.proofs.clocks.add_controls.Given as goal

abbrev pub invariant-loop-cell : goal.invariant-loop-cell
invariant-loop-cell l = GrowsBy (λ net. list_any (is_clocked_by net) (take l.cell-index l.cells)) (texts l.fn.list.items) (texts l.list.items)
