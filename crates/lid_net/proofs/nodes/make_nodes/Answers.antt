use Rattle.std.proofs.Common.{refl}
use Rattle.lid_net.proofs.Wired.{read_sink, read_shells}
use Rattle.lid_net.proofs.nodes.make_nodes.Goals as goal

pub push_sink-requires-clause-led : goal.push_sink-requires-clause-led
push_sink-requires-clause-led c = read_sink c.args.wiring.now c.args.ports.now c.args.ends.now.numbers.now _ c.requires.led refl

pub push_shells-requires-clause-led : goal.push_shells-requires-clause-led
push_shells-requires-clause-led c = (read_shells c.args.wiring.now 1 _ _ c.requires.led).0
