use Rattle.std.proofs.Common.{◌≡◌, ℕ, ◌%◌, ap, arith}
use Rattle.lid_board.proofs.Ties.{station_within, spot_within}
use Rattle.lid_board.proofs.board.Board.spot.Goals as goal

pub overflow_add-result : goal.overflow_add-result
overflow_add-result c =
    let there = station_within c.args.hand.now.ends.items c.args.hand.now.seat.me.0.ends c.args.end c.args.station _ c.args.hand.now.tied c.requires.has_end.of.room c.requires.side c.requires.has_end.owned in
    let fits = (spot_within _ c.args.self.now.caps.items c.args.self.now.firsts.items _ c.args.station c.index-3.result.now c.index-2.result.now c.unwrap_or-passed.result c.args.self.now.laid there c.index-3.ensures c.index-2.ensures).1 in
    let same : c.unwrap_or-passed.result % c.from.result ≡ c.unwrap_or-passed.result % c.index-2.result.now = ap (λ (n : ℕ). c.unwrap_or-passed.result % n) c.from.ensures in
    omega arith

pub returns-clause-inside : goal.returns-clause-inside
returns-clause-inside c =
    let there = station_within c.args.hand.now.ends.items c.args.hand.now.seat.me.0.ends c.args.end c.args.station _ c.args.hand.now.tied c.requires.has_end.of.room c.requires.side c.requires.has_end.owned in
    let fits = (spot_within _ c.args.self.now.caps.items c.args.self.now.firsts.items _ c.args.station c.index-3.result.now c.index-2.result.now c.unwrap_or-passed.result c.args.self.now.laid there c.index-3.ensures c.index-2.ensures).0 in
    let same : c.unwrap_or-passed.result % c.from.result ≡ c.unwrap_or-passed.result % c.index-2.result.now = ap (λ (n : ℕ). c.unwrap_or-passed.result % n) c.from.ensures in
    omega arith
