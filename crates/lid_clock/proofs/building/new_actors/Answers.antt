-- One more actor is new, and alone.
use Rattle.std.proofs.Common.{subst}
use Rattle.lid_stations.specs.Placed.{Placing}
use Rattle.lid_clock.specs.Ran.{lent}
use Rattle.lid_clock.specs.Starts.{IsNew}
use Rattle.lid_clock.proofs.Alone.{one_more}
use Rattle.lid_clock.proofs.building.new_actors.Goals as goal

pub loop-v-preserved : goal.loop-v-preserved
loop-v-preserved c =
    let new = subst (λ (v : Placing). IsNew v.system c.args.rows (lent c.args.first) c.loop-v.v c.in_ok-new_actor.field-0) c.placed.view_is c.in_ok-new_actor.ensures.new in
    one_more c.args.placed.now.system c.args.rows (lent c.args.first) c.loop-v.v c.loop-v.actors.items c.push.new.self.items c.in_ok-new_actor.field-0 c.loop-v.invariant c.in_ok-push.ensures.items
    new c.in_ok-new_actor.ensures.alone
