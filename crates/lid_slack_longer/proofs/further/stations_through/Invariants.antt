use Rattle.std.proofs.Common.{◌≡◌, take}
use Rattle.lid_stations.specs.Placements.{station_count}
use Rattle.lid_slack_longer.proofs.further.stations_through.Given as goal

abbrev pub invariant-loop-c : goal.invariant-loop-c
invariant-loop-c l = l.count ≡ station_count (take l.c l.relays)
