use Rattle.std.proofs.Common.{arith}
use Rattle.lid_base.proofs.Results.{if_ok}
use Rattle.lid_check_parts.proofs.Columns.{ports_within, part_within}
use Rattle.lid_net.proofs.Numbering.{columns_few, ports_numbered}
use Rattle.lid_net.proofs.pearls.shell_ports.Goals as goal

pub number_ports-requires-clause-ports : goal.number_ports-requires-clause-ports
number_ports-requires-clause-ports c = ports_within c.args.checked.now c.args.pearl c.part-numbers.result c.part-numbers.ensures

pub number_ports-requires-clause-few : goal.number_ports-requires-clause-few
number_ports-requires-clause-few c =
    let h = part_within c.args.checked.now c.args.pearl c.part-numbers.result c.part-numbers.ensures in
    let few = columns_few c.args.checked.now c.network.result.now c.network.ensures in
    omega arith

pub returns : goal.returns
returns c = if_ok c.number_ports.result (ports_numbered c.args.checked.now c.args.pearl c.part-numbers.result c.part-numbers.ensures) c.number_ports.ensures
