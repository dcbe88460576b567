use Rattle.std.proofs.Common.{◌≡◌, ◌++◌}
use Rattle.lid_base.specs.Each.{from_each}
use Rattle.lid_system.specs.declared.InBit.TheVariants.{Port}
use Rattle.lid_net_channels.proofs.bits.push_bits.Given as goal

abbrev pub invariant-loop-bit : goal.invariant-loop-bit
invariant-loop-bit l = l.bits.items ≡ l.fn.bits.items ++ from_each (Port l.chan) 0 l.bit
