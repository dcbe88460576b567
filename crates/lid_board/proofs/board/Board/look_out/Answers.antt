use Rattle.lid_station.specs.Boards.{fill}
use Rattle.lid_board.specs.Views.{held}
use Rattle.lid_board.proofs.Stepping.{looks_out_at}
use Rattle.lid_board.proofs.board.Board.look_out.Goals as goal

pub load_as-found-requires-clause-rule : goal.load_as-found-requires-clause-rule
load_as-found-requires-clause-rule c =
    looks_out_at c.args.self.now.table.shared.key.me.0.ends c.args.self.now.table.shared.table_id.slots c.args.hand.now.seat.id c.spot-spot.result.place c.args.hand.now.seat.me c.args.station c.spot-spot.result.word c.spot-spot.ensures.spot.word
    (held c.args.hand.now.seat.me.0.ends (fill c.args.station)) c.requires.has_end.owned c.spot-spot.ensures.spot.place
