use Rattle.lid_station.specs.Boards.{drain}
use Rattle.lid_board.specs.Views.{held}
use Rattle.lid_board.proofs.Stepping.{takes_at}
use Rattle.lid_board.proofs.board.Board.take.Goals as goal

pub and_as-found-requires-clause-rule : goal.and_as-found-requires-clause-rule
and_as-found-requires-clause-rule c =
    takes_at c.args.self.now.table.shared.key.me.0.ends c.args.self.now.table.shared.table_id.slots c.args.hand.now.seat.id c.spot-spot.result.place c.args.hand.now.seat.me c.args.station c.spot-spot.result.word c.spot-spot.ensures.spot.word
    (held c.args.hand.now.seat.me.0.ends (drain c.args.station)) c.bits_beside-bits.result c.requires.has_end.owned c.spot-spot.ensures.spot.place c.requires.seen c.bits_beside-bits.ensures
