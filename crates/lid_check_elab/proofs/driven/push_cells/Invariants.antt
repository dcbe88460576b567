use Rattle.std.proofs.Common.{drop, map, flat_map}
use Rattle.lid_design.specs.Models.{cell_reads}
use Rattle.lid_check_table.specs.Tables.{names_in, AreNumbersOf}
use Rattle.lid_check_drivers.specs.Locals.{local_of}
use Rattle.lid_check_elab.proofs.Driving.{Left}
use Rattle.lid_check_elab.proofs.driven.push_cells.Given as goal

abbrev pub invariant-loop-i : goal.invariant-loop-i
invariant-loop-i l = record {
  pushed : Left l.judged l.model l.into (map local_of (drop l.i l.table.cells)) l.fn.into (map local_of l.table.cells);
  left : AreNumbersOf (names_in l.table) (flat_map cell_reads (drop l.i l.table.cells)) l.left;
}
