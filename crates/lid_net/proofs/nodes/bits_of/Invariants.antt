use Rattle.std.proofs.Common.{List, take}
use Rattle.lid_system.specs.declared.Channel.{Channel}
use Rattle.lid_net_channels.specs.Bits.{CarryAll}
use Rattle.lid_net.specs.Nodes.{AreInBits}
use Rattle.lid_net.proofs.nodes.bits_of.Given as goal

abbrev pub invariant-loop-number : goal.invariant-loop-number
invariant-loop-number l = (channels : List Channel) → CarryAll channels l.wiring.reads.items l.wiring.bits.items → AreInBits channels l.wiring.origins.items l.to (take l.number-index l.ins) l.bits.items
