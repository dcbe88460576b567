use Rattle.std.proofs.Common.{take, flat_map}
use Rattle.lid_design.specs.Models.{actual_names}
use Rattle.lid_check_table.specs.Tables.{Enters}
use Rattle.lid_check_table.proofs.entering.enter_insts.Given as goal

abbrev pub invariant-loop-inst : goal.invariant-loop-inst
invariant-loop-inst l = Enters l.fn.names l.names l.fn.numbers.items l.numbers.items (flat_map actual_names (take l.inst-index l.insts))
