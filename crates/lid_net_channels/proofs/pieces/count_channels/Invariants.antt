use Rattle.std.proofs.Common.{◌≡◌, length, reverse, take}
use Rattle.lid_net_channels.specs.Cutting.{cut_back, last_width}
use Rattle.lid_net_channels.proofs.pieces.count_channels.Given as goal

abbrev pub invariant-loop-i : goal.invariant-loop-i
invariant-loop-i l = record {
  counted : l.count ≡ length (cut_back (reverse (take l.i l.reads)));
  width : l.width ≡ last_width (cut_back (reverse (take l.i l.reads)));
}
