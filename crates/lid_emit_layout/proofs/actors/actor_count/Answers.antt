use Rattle.std.proofs.Common.{arith}
use Rattle.lid_stations.proofs.Spots.{fewer_relays}
use Rattle.lid_emit_layout.proofs.actors.actor_count.Goals as goal

pub overflow_sub-movers : goal.overflow_sub-movers
overflow_sub-movers c = let e = fewer_relays c.placed.inside.placement.now.relays in let caps = c.placed.invariant.fits.rules.caps in omega arith

pub returns : goal.returns
returns c =
    let e = fewer_relays c.placed.inside.placement.now.relays in
    let caps = c.placed.invariant.fits.rules.caps in
    rw (← c.placed.view_is) (omega arith)
