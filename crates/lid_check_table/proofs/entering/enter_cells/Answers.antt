use Rattle.std.proofs.Common.{◌<◌, length, arith}
use Rattle.lid_check_table.proofs.Growing.{cells_more}
use Rattle.lid_check_table.proofs.entering.enter_cells.Goals as goal

pub loop-cell-preserved : goal.loop-cell-preserved
loop-cell-preserved c =
    let below : c.loop-cell.cell-index < length c.args.cells.now = omega arith in
    cells_more c.args.names.now c.loop-cell.names c.enter_cell.new.names c.args.into.now.reads.items c.loop-cell.into.reads.items c.enter_cell.new.into.reads.items c.args.into.now.outs.items c.loop-cell.into.outs.items c.enter_cell.new.into.outs.items c.args.cells.now c.loop-cell.cell-index c.cell-item.result c.cell-item.is below c.loop-cell.invariant c.in_ok-enter_cell.ensures
