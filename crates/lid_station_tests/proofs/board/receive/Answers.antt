use Rattle.std.proofs.Common.{◌∙◌}
use Rattle.lid_station.specs.Boards.{drain, advanced}
use Rattle.lid_board.specs.Owners.{ends_of}
use Rattle.lid_station_tests.proofs.Still.{served_here, still_back, owned_kept, owned_back}
use Rattle.lid_station_tests.proofs.board.receive.Goals as goal

pub look_in-look-requires : goal.look_in-look-requires
look_in-look-requires c =
    let there = served_here (ends_of c.args.hand.now) (drain c.args.station) c.in-Some._passed c.count_at.result c.count_at.ensures c.in-Some.is in
    (there.0, there.1)

pub returns-in_default-look-clause-of : goal.returns-in_default-look-clause-of
returns-in_default-look-clause-of c = still_back c.args.hand.now c.look_in-look.new.self.hand.now _ c.args.board.now c.look_in-look.new.self.board.now _ _ c.in_default-look.ensures.same c.hand-1.given.1 c.requires c.look_in-look.new.self.of_board

pub returns-in_default-look-clause-owned : goal.returns-in_default-look-clause-owned
returns-in_default-look-clause-owned c end owned =
    owned_back c.args.hand.now c.look_in-look.new.self.hand.now _ c.args.board.now c.look_in-look.new.self.board.now _ _ end c.in_default-look.ensures.same c.hand-1.given.1 c.requires c.look_in-look.new.self.of_board
    (owned_kept (ends_of c.args.hand.now) (ends_of c.look_in-look.new.self.hand.now) (drain c.args.station) end _ c.in_default-look.ensures.changed owned)

pub returns-clause-of : goal.returns-clause-of
returns-clause-of c = still_back c.args.hand.now c.take-token.new.self.hand.now _ c.args.board.now c.take-token.new.self.board.now _ _ (c.take-token.ensures.same ∙ c.in-Token.ensures.same) c.hand-2-1.given.1 c.requires c.take-token.new.self.of_board

pub returns-clause-owned : goal.returns-clause-owned
returns-clause-owned c end owned =
    owned_back c.args.hand.now c.take-token.new.self.hand.now _ c.args.board.now c.take-token.new.self.board.now _ _ end (c.take-token.ensures.same ∙ c.in-Token.ensures.same) c.hand-2-1.given.1 c.requires c.take-token.new.self.of_board
    (owned_kept (ends_of c.look_in-look.new.self.hand.now) (ends_of c.take-token.new.self.hand.now) (drain c.args.station) end advanced c.take-token.ensures.changed
    (owned_kept (ends_of c.args.hand.now) (ends_of c.look_in-look.new.self.hand.now) (drain c.args.station) end _ c.in-Token.ensures.changed owned))
