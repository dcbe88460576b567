use Rattle.std.proofs.Common.{flat_map, take, drop}
use Rattle.lid_design.specs.Models.{actual_names}
use Rattle.lid_check_table.specs.Tables.{names_in, AreNumbersOf, Appends}
use Rattle.lid_check_ports.specs.Nets.{nets_on}
use Rattle.lid_check_ports.proofs.nets.append_nets.Given as goal

abbrev pub invariant-loop-i : goal.invariant-loop-i
invariant-loop-i l = record {
  appended : Appends (names_in l.table) l.fn.list.items l.list.items (flat_map (nets_on l.side l.ports) (take l.i l.table.insts));
  left : AreNumbersOf (names_in l.table) (flat_map actual_names (drop l.i l.table.insts)) l.left;
}
