use Rattle.std.proofs.Common.{◌≡◌, take}
use Rattle.lid_stations.specs.Placements.{station_count}
use Rattle.lid_walk.specs.Inside.{AreEndsBelow}
use Rattle.lid_walk.proofs.ends.stations_by.Given as goal

abbrev pub invariant-loop-c : goal.invariant-loop-c
invariant-loop-c l = record {
  counted : l.first ≡ station_count (take l.c l.placed.placement.relays);
  listed : AreEndsBelow l.side l.placed l.first l.lists.items;
}
