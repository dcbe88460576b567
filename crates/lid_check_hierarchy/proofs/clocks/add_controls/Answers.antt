use Rattle.std.proofs.Common.{◌<◌, length, arith}
use Rattle.lid_design.specs.Columns.{is_clocked_by}
use Rattle.lid_check_names.specs.Names.{texts}
use Rattle.lid_check_hierarchy.proofs.Growing.{grows_item}
use Rattle.lid_check_hierarchy.proofs.clocks.add_controls.Goals as goal

pub loop-cell-preserved : goal.loop-cell-preserved
loop-cell-preserved c =
    let h : c.loop-cell.cell-index < length c.args.cells.now = omega arith in
    grows_item is_clocked_by c.args.cells.now c.loop-cell.cell-index c.cell-item.result h c.cell-item.is (texts c.args.list.now.items) (texts c.loop-cell.list.items) (texts c.add_control.new.list.items) c.loop-cell.invariant c.in_ok-add_control.ensures
