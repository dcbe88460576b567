use Rattle.std.proofs.Common.{◌≡◌, map, take}
use Rattle.lid_top_script.specs.Outputs.{channel_line}
use Rattle.lid_top_whole.proofs.check.lines_of.Given as goal

abbrev pub invariant-loop-channel : goal.invariant-loop-channel
invariant-loop-channel l = l.lines.items ≡ map channel_line (take l.channel-index l.channels)
