use Rattle.std.proofs.Common.{◌∙◌}
use Rattle.lid_check_ports.proofs.Sets.{has_port}
use Rattle.lid_check_ports.proofs.ports.Ports.has.Goals as goal

pub returns : goal.returns
returns c = c.has_name.ensures ∙ has_port c.args.self.now c.args.port c.sets_of.result.now c.sets_of.ensures c.args.model c.args.name.now
