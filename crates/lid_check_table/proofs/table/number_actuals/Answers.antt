use Rattle.std.proofs.Common.{flat_map}
use Rattle.lid_design.specs.Models.{actual_names}
use Rattle.lid_check_table.proofs.Growing.{begun}
use Rattle.lid_check_table.proofs.table.number_actuals.Goals as goal

pub returns-clause-numbers : goal.returns-clause-numbers
returns-clause-numbers c = begun c.args.names.now c.enter_insts.new.names (flat_map actual_names c.args.insts.now) c.new-numbers.result.items c.enter_insts.new.numbers.items c.from_vec.result c.new-numbers.ensures.items c.from_vec.ensures c.in_ok-enter_insts.ensures.pushed
