-- One more station is laid.
use Rattle.std.proofs.Common.{arith}
use Rattle.lid_base.proofs.Places.{item_read}
use Rattle.lid_clock_flat.proofs.Laid.{laid_next}
use Rattle.lid_clock_flat.proofs.laying.lay_all.Goals as goal

pub loop-s-preserved : goal.loop-s-preserved
loop-s-preserved c =
    laid_next c.args.stations.now c.loop-s.s c.index-stations-s.result c.loop-s.flat c.lay.new.stations c.loop-s.invariant
    (item_read c.args.stations.now c.loop-s.s c.index-stations-s.result (omega arith) c.index-stations-s.is) c.in_ok-lay.ensures
