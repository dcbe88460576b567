-- There is a relay station less on each channel than there are stations.
use Rattle.std.proofs.Common.{◌≡◌, ◌+◌, ◌-◌, subst, arith}
use Rattle.lid_stations.specs.Placed.{Placing, links_in}
use Rattle.lid_stations.specs.Stations.{actor_count}
use Rattle.lid_stations.proofs.Spots.{fewer_relays}
use Rattle.lid_clock.proofs.building.actors_of.Goals as goal

pub overflow_sub-movers : goal.overflow_sub-movers
overflow_sub-movers c = let e = fewer_relays c.placed.inside.placement.now.relays in let caps = c.placed.invariant.fits.rules.caps in omega arith

pub returns-clause-is : goal.returns-clause-is
returns-clause-is c =
    let e = fewer_relays c.placed.inside.placement.now.relays in
    let caps = c.placed.invariant.fits.rules.caps in
    subst (λ (v : Placing). c.len-3.result + (c.len.result - c.len-2.result) ≡ actor_count (links_in v) v.placement) c.placed.view_is (omega arith)
