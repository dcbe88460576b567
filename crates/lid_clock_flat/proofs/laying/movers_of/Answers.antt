-- Each mover drains the first station of its actor.
use Rattle.std.proofs.Common.{ℕ, List, get_or, ap, arith, refl}
use Rattle.lid_clock_flat.proofs.Laid.{movers_next}
use Rattle.lid_clock_flat.proofs.laying.movers_of.Goals as goal

pub loop-v-preserved : goal.loop-v-preserved
loop-v-preserved c =
    movers_next c.args.first c.loop-v.v c.args.actors.now c.loop-v.movers.items c.push.new.self.items c.index-actors-v.result c.index-actors-v.result _ c.loop-v.auto.v c.loop-v.invariant (omega arith) c.index-actors-v.is (ap (λ (xs : List ℕ). get_or xs 0 0) c.drained.ensures) refl c.in_ok-push.ensures.items
