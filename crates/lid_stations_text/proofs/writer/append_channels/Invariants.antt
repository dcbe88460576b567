use Rattle.std.proofs.Common.{◌≡◌, ◌++◌, length, drop}
use Rattle.lid_base.specs.Lists.{Keeps}
use Rattle.lid_base_lines.specs.Texts.{lines_text}
use Rattle.lid_stations.specs.Placements.{station_count}
use Rattle.lid_stations_text.specs.Written.{channel_lines}
use Rattle.lid_stations_text.proofs.writer.append_channels.Given as goal

abbrev pub invariant-loop-i : goal.invariant-loop-i
invariant-loop-i l = record {
  done : l.into.items ++ lines_text (channel_lines l.count l.two (drop l.i l.channels) (drop l.i l.relays) l.left) ≡ l.fn.into.items ++ lines_text (channel_lines l.count l.two l.channels l.relays l.caps);
  kept : Keeps l.fn.into.items l.into.items;
  left : length l.left ≡ station_count (drop l.i l.relays);
}
