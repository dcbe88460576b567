use Rattle.std.proofs.Common.{drop}
use Rattle.std.specs.List.{flat_map, enumerate_from}
use Rattle.lid_design.specs.Models.{actual_names}
use Rattle.lid_check_table.specs.Tables.{names_in, AreNumbersOf}
use Rattle.lid_check_drivers.specs.Locals.{outputs_of}
use Rattle.lid_check_elab.proofs.Driving.{Left}
use Rattle.lid_check_elab.proofs.driven.push_insts.Given as goal

abbrev pub invariant-loop-i : goal.invariant-loop-i
invariant-loop-i l = record {
  pushed : Left l.judged l.model l.into (flat_map (outputs_of l.judged) (enumerate_from l.i (drop l.i l.table.insts))) l.fn.into (flat_map (outputs_of l.judged) (enumerate_from 0 l.table.insts));
  left : AreNumbersOf (names_in l.table) (flat_map actual_names (drop l.i l.table.insts)) l.left;
}
