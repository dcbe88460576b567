use Rattle.std.proofs.Common.{◌≡◌, ◌++◌, take}
use Rattle.lid_net_channels.specs.Bits.{bits_from}
use Rattle.lid_net_channels.proofs.bits.push_all.Given as goal

abbrev pub invariant-loop-chan : goal.invariant-loop-chan
invariant-loop-chan l = l.bits.items ≡ l.fn.bits.items ++ bits_from 0 (take l.chan l.channels)
