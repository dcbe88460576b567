use Rattle.std.proofs.Common.{take, map}
use Rattle.lid_design.specs.Models.{actual_of}
use Rattle.lid_check_table.specs.Tables.{Enters}
use Rattle.lid_check_table.proofs.entering.enter_actuals.Given as goal

abbrev pub invariant-loop-bind : goal.invariant-loop-bind
invariant-loop-bind l = Enters l.fn.names l.names l.fn.numbers.items l.numbers.items (map actual_of (take l.bind-index l.binds))
