use Rattle.std.proofs.Common.{◌∙◌}
use Rattle.lid_station.specs.Boards.{fill, looked_out}
use Rattle.lid_station.proofs.Boards.{changed_here}
use Rattle.lid_station_tests.proofs.board.look_often.Goals as goal

pub loop-time-preserved : goal.loop-time-preserved
loop-time-preserved g c =
    let served = c.loop-time.invariant.served in
    record {
      served = (looked_out c.look_out-look.result served.0, changed_here _ _ (fill c.args.station) (looked_out c.look_out-look.result) served.0 c.look_out-look.ensures.changed served.1);
      same = c.look_out-look.ensures.same ∙ c.loop-time.invariant.same;
    }
