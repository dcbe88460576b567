-- A station that was read and is empty bars; one that holds a token is one more that does.
use Rattle.std.proofs.Common.{◌≡◌, ◌<◌, arith}
use Rattle.lid_clock_flat.specs.declared.station.FlatStation.{FlatStation}
use Rattle.lid_clock_flat.proofs.Readings.{one_is, one_more_is}
use Rattle.lid_clock_flat.proofs.reads.all_hold.Goals as goal

pub returns-then-not-is_valid-clause-no : goal.returns-then-not-is_valid-clause-no
returns-then-not-is_valid-clause-no c =
    let empty = c.is_valid.ensures.no c.if-not-is_valid.true in
    λ _. one_is (λ (y : FlatStation). y.held ≡ 0) c.args.reads.now c.args.stations.now c.loop-read.read-index c.index-stations-read.result (c.requires c.loop-read.read-index (omega arith)) c.index-stations-read.is empty (omega arith)

pub loop-read-preserved : goal.loop-read-preserved
loop-read-preserved c =
    let holds = c.is_valid.ensures.yes c.if-not-is_valid.false in
    one_more_is (λ (y : FlatStation). 0 < y.held) c.args.reads.now c.args.stations.now c.loop-read.read-index c.index-stations-read.result (c.requires c.loop-read.read-index (omega arith)) c.index-stations-read.is holds c.loop-read.invariant
