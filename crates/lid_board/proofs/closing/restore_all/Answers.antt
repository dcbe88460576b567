use Rattle.std.proofs.Common.{◌<◌, length, sym, ◌∙◌, arith}
use Rattle.std.proofs.lemmas.Option.{slice_get-get_or}
use Rattle.lid_board.proofs.Closed.{can_at, restored_more}
use Rattle.lid_board.proofs.closing.restore_all.Goals as goal

pub restore-requires-clause-can : goal.restore-requires-clause-can
restore-requires-clause-can c =
    let many = c.loop-station.invariant.many in
    let inside : c.loop-station.station < length c.loop-station.pairs = omega arith in
    can_at _ _ _ _ c.unwrap_or-put.result c.unwrap_or-taken.result _ c.unwrap_or-put.ensures c.unwrap_or-taken.ensures
    (c.requires.can c.loop-station.station _ (sym (c.loop-station.invariant.others c.loop-station.station (omega arith)) ∙ slice_get-get_or c.loop-station.pairs c.loop-station.station c.index-pairs-station.result inside))

pub loop-station-preserved : goal.loop-station-preserved
loop-station-preserved c =
    let many = c.loop-station.invariant.many in
    let inside : c.loop-station.station < length c.loop-station.pairs = omega arith in
    restored_more _ c.args.firsts.now c.args.numbers.now c.args.pairs.now c.loop-station.pairs c.loop-station.station c.unwrap_or-put.result c.unwrap_or-taken.result _ c.restore.new.pair c.loop-station.invariant
    (slice_get-get_or c.loop-station.pairs c.loop-station.station c.index-pairs-station.result inside) c.unwrap_or-put.ensures c.unwrap_or-taken.ensures c.restore.ensures
