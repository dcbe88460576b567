use Rattle.std.proofs.Common.{List, sym, subst, arith}
use Rattle.lid_stations.specs.Placements.{station_count}
use Rattle.lid_size.specs.Choices.{followed}
use Rattle.lid_size.specs.Comparing.{ReachesWith}
use Rattle.lid_size.proofs.Chosen.{chosen_greatest, chosen_first}
use Rattle.lid_size.proofs.Reaching.{stations_counted}
use Rattle.lid_size.proofs.Sized.{reach_up}
use Rattle.lid_size.proofs.choosing.choose.Goals as goal

pub next_capacity-requires-clause-greatest : goal.next_capacity-requires-clause-greatest
next_capacity-requires-clause-greatest c =
    let placed = c.args.placed.now in
    let count = station_count placed.placement.relays in
    let counted = stations_counted _ _ c.len-end.result c.placed.view_is c.placed.invariant c.len-end.ensures in
    subst (λ (done : List _). ReachesWith placed (followed count done 16)) (sym c.deref.ensures.value)
    (chosen_greatest (ReachesWith placed) count c.loop.done.items (omega (arith, c.loop.invariant.long, c.loop-test.true, counted)) c.loop.invariant.chosen)

pub returns : goal.returns
returns c =
    let placed = c.args.placed.now in
    let relays = placed.placement.relays in
    let counted = stations_counted _ _ c.len-end.result c.placed.view_is c.placed.invariant c.len-end.ensures in
    chosen_first (ReachesWith placed) (station_count relays) (λ xs ys less reach. reach_up placed.system relays xs ys less reach) c.loop.done.items (omega (arith, c.loop.invariant.long, c.loop-test.false, c.loop.auto.counter-end, counted)) c.loop.invariant.chosen
