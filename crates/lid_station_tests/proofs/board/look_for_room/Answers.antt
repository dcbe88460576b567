use Rattle.lid_station.specs.Boards.{fill}
use Rattle.lid_board.specs.Owners.{ends_of}
use Rattle.lid_station_tests.proofs.Still.{served_here, still_back}
use Rattle.lid_station_tests.proofs.board.look_for_room.Goals as goal

pub look_out-requires : goal.look_out-requires
look_out-requires c =
    let there = served_here (ends_of c.args.hand.now) (fill c.args.station) c.in-Some.passed c.count_at.result c.count_at.ensures c.in-Some.is in
    (there.0, there.1)

pub returns : goal.returns
returns c = still_back c.args.hand.now c.look_out.new.self.hand.now _ c.args.board.now c.look_out.new.self.board.now _ _ c.look_out.ensures.same c.hand-1.given.1 c.requires c.look_out.new.self.of_board
