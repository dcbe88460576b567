use Rattle.std.proofs.Common.{◌∙◌, sym, arith}
use Rattle.lid_station.specs.Boards.{drain}
use Rattle.lid_board.specs.Views.{held}
use Rattle.lid_station.proofs.Words.{word_nothing}
use Rattle.lid_board.proofs.Stepping.{looks_in_at}
use Rattle.lid_board.proofs.board.Board.look_in.Goals as goal

pub load_as-found-requires-clause-rule : goal.load_as-found-requires-clause-rule
load_as-found-requires-clause-rule c =
    looks_in_at c.args.self.now.table.shared.key.me.0.ends c.args.self.now.table.shared.table_id.slots c.args.hand.now.seat.id c.spot-spot.result.place c.args.hand.now.seat.me c.args.station c.spot-spot.result.word c.spot-spot.ensures.spot.word
    (held c.args.hand.now.seat.me.0.ends (drain c.args.station)) c.requires.has_end.owned c.spot-spot.ensures.spot.place

pub returns-then-half-eq0-clause-found : goal.returns-then-half-eq0-clause-found
returns-then-half-eq0-clause-found c =
    (c.load_as-found.ensures.told.ends.void (sym c.half_at-half.ensures ∙ c.if-half-eq0.true)).nothing ∙ sym (word_nothing _ _ _ _ (omega arith))
