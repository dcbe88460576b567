use Rattle.std.proofs.Common.{◌≡◌, take, min}
use Rattle.lid_stations.specs.Placed.{links_in}
use Rattle.lid_stations.specs.Placements.{station_count}
use Rattle.lid_emit_meaning.specs.Sizes.{sizes_from}
use Rattle.lid_emit.proofs.stations.stations_size.Given as goal

abbrev pub invariant-loop-c : goal.invariant-loop-c
invariant-loop-c l = record {
  counted : l.station ≡ station_count (take l.c l.placed.placement.relays);
  summed : l.size ≡ min (sizes_from (links_in l.placed) l.placed.placement 0 l.station) 18446744073709551615;
}
