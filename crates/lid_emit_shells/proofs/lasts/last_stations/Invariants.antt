use Rattle.std.proofs.Common.{◌≡◌, ◌+◌, ◌++◌, drop}
use Rattle.lid_stations.specs.Placements.{station_count}
use Rattle.lid_emit_shells.specs.Reading.{lasts_from}
use Rattle.lid_emit_shells.proofs.lasts.last_stations.Given as goal

abbrev pub invariant-loop-count : goal.invariant-loop-count
invariant-loop-count l = record {
  told : l.lasts.items ++ lasts_from l.first (drop l.count-index l.relays) ≡ lasts_from 0 l.relays;
  counted : l.first + station_count (drop l.count-index l.relays) ≡ station_count l.relays;
}
