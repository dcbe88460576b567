-- A station that was read and is empty bars; one that holds a token is one more that does.
use Rattle.std.proofs.Common.{◌<◌, ◌≤◌, arith}
use Rattle.std.proofs.lemmas.Bool.{ltb-true, ltb-false}
use Rattle.lid_clock.specs.declared.station.ClockStation.{ClockStation}
use Rattle.lid_clock.proofs.Readings.{one_is, one_more_is}
use Rattle.lid_clock.proofs.firing.all_hold.Goals as goal

pub returns-then-not-is_valid-clause-no : goal.returns-then-not-is_valid-clause-no
returns-then-not-is_valid-clause-no c =
    let x = c.index-stations-read.result in
    let empty : x.put ≤ x.taken = ltb-false _ _ (cc) in
    λ _. one_is (λ (y : ClockStation). y.put ≤ y.taken) c.args.reads.now c.args.stations.now c.loop-read.read-index x (c.requires c.loop-read.read-index (omega arith)) c.index-stations-read.is empty (omega arith)

pub loop-read-preserved : goal.loop-read-preserved
loop-read-preserved c =
    let x = c.index-stations-read.result in
    let holds : x.taken < x.put = ltb-true _ _ (cc) in
    one_more_is (λ (y : ClockStation). y.taken < y.put) c.args.reads.now c.args.stations.now c.loop-read.read-index x (c.requires c.loop-read.read-index (omega arith)) c.index-stations-read.is holds c.loop-read.invariant
