use Rattle.std.proofs.Common.{◌<◌, length, refl, arith}
use Rattle.std.proofs.lemmas.Bool.Decides.{nat_tests}
use Rattle.lid_station.specs.Boards.{marked}
use Rattle.lid_station.proofs.Boards.{changed_here}
use Rattle.lid_station.proofs.PlainStations.{serves_drain}
use Rattle.lid_station_tests.proofs.stations.receive.Goals as goal

pub look_in-look-requires : goal.look_in-look-requires
look_in-look-requires c =
    let there : 0 < length c.args.board.now.pairs.items = grind (arith, nat_tests) in
    serves_drain c.args.board.now.pairs.items 0 there

pub take-requires : goal.take-requires
take-requires c =
    let there : 0 < length c.args.board.now.pairs.items = grind (arith, nat_tests) in
    let served = serves_drain c.args.board.now.pairs.items 0 there in
    (marked served.0, changed_here _ _ 1 marked served.0 c.in-Token.ensures.changed served.1, refl)
