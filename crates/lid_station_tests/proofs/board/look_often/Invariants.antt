use Rattle.std.proofs.Common.{◌≡◌}
use Rattle.lid_station.specs.Boards.{IsServed, fill}
use Rattle.lid_station_tests.proofs.board.look_often.Given as goal

abbrev pub invariant-loop-time : goal.invariant-loop-time
invariant-loop-time g l = record {
  served : IsServed (g.B.Stations.ends l.stations) (fill l.station);
  same : g.B.Stations.identity l.stations ≡ g.B.Stations.identity l.fn.stations;
}
