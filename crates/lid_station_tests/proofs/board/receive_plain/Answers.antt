use Rattle.std.proofs.Common.{◌<◌, length, refl, arith}
use Rattle.std.proofs.lemmas.Bool.Decides.{nat_tests}
use Rattle.lid_station.specs.Boards.{drain, marked}
use Rattle.lid_station.proofs.Boards.{changed_here}
use Rattle.lid_station.proofs.PlainStations.{serves_drain}
use Rattle.lid_station_tests.proofs.board.receive_plain.Goals as goal

pub look_in-look-requires : goal.look_in-look-requires
look_in-look-requires c =
    let there : c.args.station < length c.args.plain.now.pairs.items = grind (arith, nat_tests) in
    serves_drain c.args.plain.now.pairs.items c.args.station there

pub take-requires : goal.take-requires
take-requires c =
    let there : c.args.station < length c.args.plain.now.pairs.items = grind (arith, nat_tests) in
    let served = serves_drain c.args.plain.now.pairs.items c.args.station there in
    (marked served.0, changed_here _ _ (drain c.args.station) marked served.0 c.in-Token.ensures.changed served.1, refl)
