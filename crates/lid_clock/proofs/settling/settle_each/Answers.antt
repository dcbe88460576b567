-- Each station settles once, beside the actors after their decisions.
use Rattle.std.proofs.Common.{arith}
use Rattle.lid_clock.specs.declared.station.ClockStation.{ClockStation}
use Rattle.lid_clock.specs.States.{CanSettle}
use Rattle.lid_base.proofs.Upto.{none_yet, next_meets, one_more, all_changed}
use Rattle.lid_clock.proofs.settling.settle_each.Goals as goal

pub settle-requires : goal.settle-requires
settle-requires c =
    next_meets _ (λ (x : ClockStation). CanSettle x c.args.actors.now) c.loop-s.s c.args.stations.now c.loop-s.stations c.index-stations-s.result c.loop-s.invariant (omega arith) c.index-stations-s.is
    (c.requires c.loop-s.s c.index-stations-s.result)

pub loop-s-init : goal.loop-s-init
loop-s-init c = none_yet _ _

pub loop-s-preserved : goal.loop-s-preserved
loop-s-preserved c =
    one_more _ c.loop-s.s c.args.stations.now c.loop-s.stations c.index-stations-s.result c.settle.new.self c.loop-s.invariant (omega arith) c.index-stations-s.is
    c.settle.ensures

pub returns : goal.returns
returns c =
    record {
      many = c.loop-s.invariant.many;
      each = all_changed _ c.args.stations.now c.loop-s.stations c.loop-s.s c.loop-s.invariant c.loop-s-test.false;
    }
