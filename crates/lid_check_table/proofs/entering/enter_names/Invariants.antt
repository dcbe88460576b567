use Rattle.std.proofs.Common.{take}
use Rattle.lid_check_table.specs.Tables.{Enters}
use Rattle.lid_check_table.proofs.entering.enter_names.Given as goal

abbrev pub invariant-loop-name : goal.invariant-loop-name
invariant-loop-name l = Enters l.fn.names l.names l.fn.numbers.items l.numbers.items (take l.name-index l.list)
