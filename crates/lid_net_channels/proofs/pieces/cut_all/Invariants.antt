use Rattle.std.proofs.Common.{◌≡◌, reverse, take}
use Rattle.lid_net_channels.specs.Cutting.{cut_back}
use Rattle.lid_net_channels.proofs.pieces.cut_all.Given as goal

abbrev pub invariant-loop-read : goal.invariant-loop-read
invariant-loop-read l = reverse l.channels.items ≡ cut_back (reverse (take l.read-index l.reads))
