use Rattle.std.proofs.Common.{◌+◌}
use Rattle.lid_stations.specs.Placed.{links_in}
use Rattle.lid_clock.specs.Starts.{HasLaid, KeepsNew}
use Rattle.lid_clock.proofs.joining.lay_channel.Given as goal

abbrev pub invariant-loop-place : goal.invariant-loop-place
invariant-loop-place l = record {
  laid : HasLaid (links_in l.placed) l.placed.placement (l.station + l.place) l.actors l.stations.items;
  new : KeepsNew l.placed.system l.fn.actors l.actors;
}
