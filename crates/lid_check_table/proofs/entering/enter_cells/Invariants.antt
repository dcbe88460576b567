use Rattle.std.proofs.Common.{take}
use Rattle.lid_check_table.specs.Tables.{EntersCells}
use Rattle.lid_check_table.proofs.entering.enter_cells.Given as goal

abbrev pub invariant-loop-cell : goal.invariant-loop-cell
invariant-loop-cell l = EntersCells l.fn.names l.names l.fn.into.reads.items l.into.reads.items l.fn.into.outs.items l.into.outs.items (take l.cell-index l.cells)
