use Rattle.std.proofs.Common.{◌≡◌, take}
use Rattle.lid_stations.specs.Placements.{station_count}
use Rattle.lid_stations.specs.Placed.{links_in}
use Rattle.lid_clock.specs.Starts.{HasLaid, KeepsNew}
use Rattle.lid_clock.proofs.joining.lay_stations.Given as goal

abbrev pub invariant-loop-c : goal.invariant-loop-c
invariant-loop-c l = record {
  counted : l.station ≡ station_count (take l.c l.placed.placement.relays);
  laid : HasLaid (links_in l.placed) l.placed.placement l.station l.actors l.stations.items;
  new : KeepsNew l.placed.system l.fn.actors l.actors;
}
