use Rattle.std.proofs.Common.{◌<◌, length, arith}
use Rattle.lid_station.proofs.PlainStations.{serves_fill}
use Rattle.lid_station_tests.proofs.board.left_after_close.Goals as goal

pub look_out-full-requires : goal.look_out-full-requires
look_out-full-requires c =
    let there : 0 < length c.in-Some.plain.pairs.items = grind arith in
    serves_fill c.in-Some.plain.pairs.items 0 there
