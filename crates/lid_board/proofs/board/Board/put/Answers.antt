use Rattle.lid_station.specs.Boards.{fill}
use Rattle.lid_board.specs.Views.{held}
use Rattle.lid_board.proofs.Stepping.{puts_at}
use Rattle.lid_board.proofs.board.Board.put.Goals as goal

pub or_as-requires-clause-rule : goal.or_as-requires-clause-rule
or_as-requires-clause-rule c =
    puts_at c.args.self.now.table.shared.key.me.0.ends c.args.self.now.table.shared.table_id.slots c.args.hand.now.seat.id c.spot-spot.result.place c.args.hand.now.seat.me c.args.station c.spot-spot.result.word c.spot-spot.ensures.spot.word
    (held c.args.hand.now.seat.me.0.ends (fill c.args.station)) c.args.token c.bits_of-bits.result c.requires.has_end.owned c.spot-spot.ensures.spot.place c.requires.seen c.requires.next c.bits_of-bits.ensures
