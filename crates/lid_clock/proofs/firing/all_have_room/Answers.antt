-- A station that was read and is full bars; one with room is one more that has room.
use Rattle.std.proofs.Common.{◌<◌, ◌≤◌, ◌+◌, length, arith}
use Rattle.lid_clock.specs.declared.station.ClockStation.{ClockStation}
use Rattle.lid_clock.proofs.Readings.{one_is, one_more_is}
use Rattle.lid_clock.proofs.firing.all_have_room.Goals as goal

pub returns-then-is_full-clause-no : goal.returns-then-is_full-clause-no
returns-then-is_full-clause-no c =
    let full = c.is_full.ensures.yes c.if-is_full.true in
    λ _. one_is (λ (y : ClockStation). y.taken + length y.places ≤ y.put) c.args.reads.now c.args.stations.now c.loop-read.read-index c.index-stations-read.result (c.requires c.loop-read.read-index (omega arith)) c.index-stations-read.is full (omega arith)

pub loop-read-preserved : goal.loop-read-preserved
loop-read-preserved c =
    let room = c.is_full.ensures.no c.if-is_full.false in
    one_more_is (λ (y : ClockStation). y.put < y.taken + length y.places) c.args.reads.now c.args.stations.now c.loop-read.read-index c.index-stations-read.result (c.requires c.loop-read.read-index (omega arith)) c.index-stations-read.is room c.loop-read.invariant
