-- Each actor decides once, beside the stations as the cycle begins.
use Rattle.std.proofs.Common.{Bool, get_or, subst, arith}
use Rattle.lid_clock.specs.declared.actor.ClockActor.{ClockActor}
use Rattle.lid_clock.specs.States.{CanDecide, Decides}
use Rattle.lid_base.proofs.Upto.{none_yet, next_meets, one_more, all_changed}
use Rattle.lid_clock.proofs.Together.{each_can_decide, all_decide}
use Rattle.lid_clock.proofs.cycle.decide_all.Goals as goal

pub decide-requires : goal.decide-requires
decide-requires c =
    next_meets _ (λ (a : ClockActor). CanDecide a c.args.stations.now) c.loop-v.v c.args.actors.now c.loop-v.actors c.index-actors-v.result c.loop-v.invariant (omega arith) c.index-actors-v.is
    (each_can_decide c.args.actors.now c.args.stations.now c.loop-v.v c.index-actors-v.result c.requires)

pub loop-v-init : goal.loop-v-init
loop-v-init c = none_yet _ _

pub loop-v-preserved : goal.loop-v-preserved
loop-v-preserved c =
    one_more _ c.loop-v.v c.args.actors.now c.loop-v.actors c.index-actors-v.result c.decide.new.self c.loop-v.invariant (omega arith) c.index-actors-v.is
    (subst (λ (b : Bool). Decides (get_or c.loop-v.actors c.loop-v.v c.index-actors-v.result) c.args.stations.now b c.decide.new.self) c.is_held.ensures c.decide.ensures)

pub returns : goal.returns
returns c =
    all_decide c.args.actors.now c.loop-v.actors c.args.stations.now c.args.sunk c.args.source c.args.sink c.loop-v.invariant.many
    (all_changed _ c.args.actors.now c.loop-v.actors c.loop-v.v c.loop-v.invariant c.loop-v-test.false)
