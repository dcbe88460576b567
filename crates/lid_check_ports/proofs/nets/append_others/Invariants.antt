use Rattle.std.proofs.Common.{ℕ, List, not, filter, take}
use Rattle.lid_check_table.specs.Tables.{AreNumbersOf, Appends}
use Rattle.lid_check_ports.specs.declared.ports.Port.TheVariants.{Input}
use Rattle.lid_check_ports.specs.Ports.{is_in}
use Rattle.lid_check_ports.proofs.nets.append_others.Given as goal

abbrev pub invariant-loop-i : goal.invariant-loop-i
invariant-loop-i l = (all : List (List ℕ)) → AreNumbersOf all l.names l.numbers → Appends all l.fn.list.items l.list.items (filter (λ net. not (is_in l.ports Input l.k net)) (take l.i l.names))
