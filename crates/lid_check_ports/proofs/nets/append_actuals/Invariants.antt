use Rattle.std.proofs.Common.{ℕ, List, map, take}
use Rattle.lid_design.specs.Models.{actual_of}
use Rattle.lid_check_table.specs.Tables.{AreNumbersOf, Appends}
use Rattle.lid_check_ports.specs.Nets.{actuals_on}
use Rattle.lid_check_ports.proofs.nets.append_actuals.Given as goal

abbrev pub invariant-loop-i : goal.invariant-loop-i
invariant-loop-i l = (names : List (List ℕ)) → AreNumbersOf names (map actual_of l.binds) l.actuals → Appends names l.fn.list.items l.list.items (actuals_on l.side l.ports l.sub (take l.i l.binds))
