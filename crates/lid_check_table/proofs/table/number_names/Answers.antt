use Rattle.lid_check_table.proofs.Growing.{begun}
use Rattle.lid_check_table.proofs.table.number_names.Goals as goal

pub returns-clause-numbers : goal.returns-clause-numbers
returns-clause-numbers c = begun c.args.names.now c.enter_names.new.names c.args.list.now c.in_ok-numbers.numbers.items c.enter_names.new.numbers.items c.from_vec.result c.in_ok-numbers.ensures.items c.from_vec.ensures c.in_ok-enter_names.ensures.pushed
