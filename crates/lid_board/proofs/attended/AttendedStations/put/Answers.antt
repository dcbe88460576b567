use Rattle.std.proofs.Common.{◌∙◌, sym, ap}
use Rattle.std.specs.Prelude.{slice_get}
use Rattle.lid_station.specs.Boards.{Facts, fill}
use Rattle.lid_board.specs.Owners.{ends_of, start_ends}
use Rattle.lid_board.specs.Relation.{stream_of}
use Rattle.lid_board.specs.Views.{at}
use Rattle.lid_board.proofs.Calling.{facts_held}
use Rattle.lid_board.proofs.attended.AttendedStations.put.Goals as goal

pub put-requires-clause-next : goal.put-requires-clause-next
put-requires-clause-next c =
    ap (λ (f : Facts). slice_get (stream_of (start_ends c.args.self.now.board.now) c.args.station) f.passed) (sym (facts_held (at (ends_of c.args.self.now.hand.now) (fill c.args.station)) c.requires.room.0 c.requires.room.1))
    ∙ c.requires.admitted c.requires.room.0 c.requires.room.1
