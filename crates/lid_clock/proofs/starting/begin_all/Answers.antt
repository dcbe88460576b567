-- One more station has begun.
use Rattle.std.proofs.Common.{arith}
use Rattle.lid_clock.specs.Starts.{CanGain}
use Rattle.lid_base.proofs.Upto.{none_yet, next_meets, one_more, each_was}
use Rattle.lid_clock.proofs.starting.begin_all.Goals as goal

pub begin-requires : goal.begin-requires
begin-requires c =
    next_meets _ (CanGain c.args.actors.now) c.loop-i.i c.args.stations.now c.loop-i.stations c.index-stations-i.result c.loop-i.invariant (omega arith) c.index-stations-i.is
    (c.requires c.loop-i.i c.index-stations-i.result)

pub loop-i-init : goal.loop-i-init
loop-i-init c = none_yet _ _

pub loop-i-preserved : goal.loop-i-preserved
loop-i-preserved c =
    one_more _ c.loop-i.i c.args.stations.now c.loop-i.stations c.index-stations-i.result c.begin.new.self c.loop-i.invariant (omega arith) c.index-stations-i.is
    c.begin.ensures

pub returns : goal.returns
returns c = record { many = c.loop-i.invariant.many; each = each_was _ c.args.stations.now c.loop-i.stations c.loop-i.i c.loop-i.invariant (omega (arith, c.loop-i-test.false)) }
