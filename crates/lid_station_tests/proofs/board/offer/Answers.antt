use Rattle.std.proofs.Common.{ℕ, List, refl, ◌∙◌, ap, slice_get}
use Rattle.lid_station.specs.Boards.{fill, marked, advanced}
use Rattle.lid_station.proofs.Boards.{changed_here}
use Rattle.lid_board.specs.Owners.{ends_of, start_ends}
use Rattle.lid_board.specs.Relation.{stream_of}
use Rattle.lid_board.specs.Standing.{attended_next, served_within}
use Rattle.lid_station_tests.proofs.Still.{served_here, still_back, owned_kept, owned_back}
use Rattle.lid_station_tests.proofs.board.offer.Goals as goal

pub look_out-look-requires : goal.look_out-look-requires
look_out-look-requires c =
    let there = served_here (ends_of c.args.hand.now) (fill c.args.station) c.in-Some.passed c.count_at.result c.count_at.ensures c.in-Some.is in
    (there.0, there.1)

pub returns-in_default-look-clause-of : goal.returns-in_default-look-clause-of
returns-in_default-look-clause-of c = still_back c.args.hand.now c.look_out-look.new.self.hand.now _ c.args.board.now c.look_out-look.new.self.board.now _ _ c.in_default-look.ensures.same c.hand-1.given.1 c.requires.of c.look_out-look.new.self.of_board

pub returns-in_default-look-clause-owned : goal.returns-in_default-look-clause-owned
returns-in_default-look-clause-owned c end owned =
    owned_back c.args.hand.now c.look_out-look.new.self.hand.now _ c.args.board.now c.look_out-look.new.self.board.now _ _ end c.in_default-look.ensures.same c.hand-1.given.1 c.requires.of c.look_out-look.new.self.of_board
    (owned_kept (ends_of c.args.hand.now) (ends_of c.look_out-look.new.self.hand.now) (fill c.args.station) end _ c.in_default-look.ensures.changed owned)

pub returns-in_default-next-clause-of : goal.returns-in_default-next-clause-of
returns-in_default-next-clause-of c = still_back c.args.hand.now c.look_out-look.new.self.hand.now _ c.args.board.now c.look_out-look.new.self.board.now _ _ c.in-Room.ensures.same c.hand-in_default-next-1.given.1 c.requires.of c.look_out-look.new.self.of_board

pub returns-in_default-next-clause-owned : goal.returns-in_default-next-clause-owned
returns-in_default-next-clause-owned c end owned =
    owned_back c.args.hand.now c.look_out-look.new.self.hand.now _ c.args.board.now c.look_out-look.new.self.board.now _ _ end c.in-Room.ensures.same c.hand-in_default-next-1.given.1 c.requires.of c.look_out-look.new.self.of_board
    (owned_kept (ends_of c.args.hand.now) (ends_of c.look_out-look.new.self.hand.now) (fill c.args.station) end _ c.in-Room.ensures.changed owned)

pub put-requires-clause-room : goal.put-requires-clause-room
put-requires-clause-room c =
    let there = served_here (ends_of c.args.hand.now) (fill c.args.station) c.in-Some.passed c.count_at.result c.count_at.ensures c.in-Some.is in
    (marked there.0, changed_here _ _ (fill c.args.station) marked there.0 c.in-Room.ensures.changed there.1, refl)

pub put-requires-clause-admitted : goal.put-requires-clause-admitted
put-requires-clause-admitted c =
    let there = served_here (ends_of c.args.hand.now) (fill c.args.station) c.in-Some.passed c.count_at.result c.count_at.ensures c.in-Some.is in
    let within = served_within c.args.board.now c.args.hand.now (fill c.args.station) there.0 c.requires.of there.1 in
    attended_next c.look_out-look.new.self.board.now c.look_out-look.new.self.hand.now c.look_out-look.new.self.of_board (stream_of (start_ends c.args.board.now)) c.args.station _ (marked there.0)
    (c.in-Room.ensures.kept (stream_of (start_ends c.args.board.now)) (λ station inside. refl))
    (changed_here _ _ (fill c.args.station) marked there.0 c.in-Room.ensures.changed there.1)
    (ap (λ (s : List ℕ). slice_get s there.0.passed) (c.requires.stream within) ∙ ap (slice_get c.args.stream.now) there.2 ∙ c.in-Some-next.ensures.next)

pub returns-clause-of : goal.returns-clause-of
returns-clause-of c = still_back c.args.hand.now c.put.new.self.hand.now _ c.args.board.now c.put.new.self.board.now _ _ (c.put.ensures.same ∙ c.in-Room.ensures.same) c.hand-2-1.given.1 c.requires.of c.put.new.self.of_board

pub returns-clause-owned : goal.returns-clause-owned
returns-clause-owned c end owned =
    owned_back c.args.hand.now c.put.new.self.hand.now _ c.args.board.now c.put.new.self.board.now _ _ end (c.put.ensures.same ∙ c.in-Room.ensures.same) c.hand-2-1.given.1 c.requires.of c.put.new.self.of_board
    (owned_kept (ends_of c.look_out-look.new.self.hand.now) (ends_of c.put.new.self.hand.now) (fill c.args.station) end advanced c.put.ensures.changed
    (owned_kept (ends_of c.args.hand.now) (ends_of c.look_out-look.new.self.hand.now) (fill c.args.station) end _ c.in-Room.ensures.changed owned))
