use Rattle.std.proofs.Common.{◌≡◌, ◌≤◌, ◌*◌, take}
use Rattle.lid_stations.specs.Placements.{station_count}
use Rattle.lid_stations_text.proofs.building.count_stations.Given as goal

abbrev pub invariant-loop-relays : goal.invariant-loop-relays
invariant-loop-relays l = record {
  count : l.count ≡ station_count (take l.relays-index l.fn.relays);
  most : l.count ≤ 65 * l.relays-index;
}
