use Rattle.std.proofs.Common.{◌≡◌, ◌≤◌, ◌*◌, take}
use Rattle.lid_stations.specs.Placements.{station_count}
use Rattle.lid_top_gen.proofs.placing.count_stations.Given as goal

abbrev pub invariant-loop-relays : goal.invariant-loop-relays
invariant-loop-relays l = record {
  count : l.count ≡ station_count (take l.relays-index l.fn.relays);
  most : l.count ≤ 4 * l.relays-index;
}
