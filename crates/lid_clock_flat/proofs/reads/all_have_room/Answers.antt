-- A station that was read and is full bars; one with room is one more that has room.
use Rattle.std.proofs.Common.{◌≡◌, ◌<◌, arith}
use Rattle.lid_clock_flat.specs.declared.station.FlatStation.{FlatStation}
use Rattle.lid_clock_flat.proofs.Readings.{one_is, one_more_is}
use Rattle.lid_clock_flat.proofs.reads.all_have_room.Goals as goal

pub returns-then-not-has_room-clause-no : goal.returns-then-not-has_room-clause-no
returns-then-not-has_room-clause-no c =
    let full = c.has_room.ensures.no c.if-not-has_room.true in
    λ _. one_is (λ (y : FlatStation). y.held ≡ y.cap) c.args.reads.now c.args.stations.now c.loop-read.read-index c.index-stations-read.result (c.requires c.loop-read.read-index (omega arith)) c.index-stations-read.is full (omega arith)

pub loop-read-preserved : goal.loop-read-preserved
loop-read-preserved c =
    let room = c.has_room.ensures.yes c.if-not-has_room.false in
    one_more_is (λ (y : FlatStation). y.held < y.cap) c.args.reads.now c.args.stations.now c.loop-read.read-index c.index-stations-read.result (c.requires c.loop-read.read-index (omega arith)) c.index-stations-read.is room c.loop-read.invariant
