use Rattle.std.proofs.Common.{ap, arith}
use Rattle.lid_stations.specs.Placed.{Placing, links_in}
use Rattle.lid_stations.specs.Stations.{actor_count}
use Rattle.lid_stations.proofs.Spots.{fewer_relays}
use Rattle.lid_stations.proofs.marked_graph.actors.Goals as goal

pub overflow_sub-movers : goal.overflow_sub-movers
overflow_sub-movers c = let e = fewer_relays c.placed.inside.placement.now.relays in let caps = c.placed.invariant.fits.rules.caps in omega arith

pub returns : goal.returns
returns c =
    let e = fewer_relays c.placed.inside.placement.now.relays in
    let caps = c.placed.invariant.fits.rules.caps in
    let is = ap (λ (v : Placing). actor_count (links_in v) v.placement) c.placed.view_is in
    omega arith
