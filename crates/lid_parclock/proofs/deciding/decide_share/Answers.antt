-- Each actor of the share decides once.
use Rattle.std.proofs.Common.{arith}
use Rattle.lid_clock.specs.declared.actor.ClockActor.{ClockActor}
use Rattle.lid_clock.specs.States.{CanDecide}
use Rattle.lid_base.proofs.Upto.{none_yet, next_meets, one_more, all_changed}
use Rattle.lid_parclock.proofs.deciding.decide_share.Goals as goal

pub decide-requires : goal.decide-requires
decide-requires c =
    next_meets _ (λ (a : ClockActor). CanDecide a c.args.stations.now) c.loop-i.i c.args.share.now c.loop-i.share c.index-share-i.result c.loop-i.invariant (omega arith) c.index-share-i.is
    (c.requires c.loop-i.i c.index-share-i.result)

pub loop-i-init : goal.loop-i-init
loop-i-init c = none_yet _ _

pub loop-i-preserved : goal.loop-i-preserved
loop-i-preserved c =
    one_more _ c.loop-i.i c.args.share.now c.loop-i.share c.index-share-i.result c.decide.new.self c.loop-i.invariant (omega arith) c.index-share-i.is
    c.decide.ensures

pub returns : goal.returns
returns c =
    record {
      many = c.loop-i.invariant.many;
      each = all_changed _ c.args.share.now c.loop-i.share c.loop-i.i c.loop-i.invariant c.loop-i-test.false;
    }
