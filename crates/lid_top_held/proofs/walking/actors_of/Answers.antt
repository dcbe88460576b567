-- There is a relay station less on each channel than there are stations.
use Rattle.std.proofs.Common.{ap, arith}
use Rattle.lid_stations.specs.Placements.{links_of}
use Rattle.lid_stations.specs.Stations.{actor_count}
use Rattle.lid_stations.proofs.Spots.{fewer_relays}
use Rattle.lid_top_script.specs.Wrapped.{Wrapping}
use Rattle.lid_top_held.proofs.walking.actors_of.Goals as goal

pub overflow_sub-result : goal.overflow_sub-result
overflow_sub-result c = let e = fewer_relays c.wrapped.inside.placement.relays in let caps = c.wrapped.invariant.fits.rules.caps in omega arith

pub returns : goal.returns
returns c =
    let e = fewer_relays c.wrapped.inside.placement.relays in
    let caps = c.wrapped.invariant.fits.rules.caps in
    let same = ap (λ (w : Wrapping). actor_count (links_of w.system) w.placement) c.wrapped.view_is in
    omega arith
