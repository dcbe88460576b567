use Rattle.std.proofs.Common.{◌≡◌, find, drop}
use Rattle.lid_check_table.specs.Tables.{names_in}
use Rattle.lid_check_rules.specs.Names.{is_faulty}
use Rattle.lid_check_rules.proofs.names.tell_first.Given as goal

abbrev pub invariant-loop-number : goal.invariant-loop-number
invariant-loop-number l = find (is_faulty l.rule l.ports l.nets.table.now) (drop l.number (names_in l.nets.table.now)) ≡ find (is_faulty l.rule l.ports l.nets.table.now) (names_in l.nets.table.now)
