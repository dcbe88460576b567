-- The stations of a channel stand at its places.
use Rattle.std.proofs.Common.{◌≡◌, ◌+◌, ℕ, List, ◌++◌, length, get_or, ap, ◌∙◌, arith}
use Rattle.lid_graph.specs.declared.graph.Edge.{Edge}
use Rattle.lid_stations.specs.Placed.{Placing, links_in}
use Rattle.lid_stations.specs.Markings.{station_edges}
use Rattle.lid_stations.proofs.Parts.{grown_one}
use Rattle.lid_stations.proofs.Spots.{first_station, starts_small}
use Rattle.lid_stations.proofs.Standing.{on_opened, is_place, in_caps, capacity_range}
use Rattle.lid_stations.proofs.Edges.{edges_there}
use Rattle.lid_stations.proofs.marked_graph.push_channel.Goals as goal

pub overflow_sub-first : goal.overflow_sub-first
overflow_sub-first c = let there = c.requires.there in let first = c.requires.first in omega (arith, first_station c.args.placed.now.placement.relays c.args.c (omega arith))

pub filler-requires : goal.filler-requires
filler-requires c =
    let s = c.placed.inside.system.now in
    let p = c.placed.inside.placement.now in
    let is = on_opened s p c.args.placed.now c.args.c c.args.station c.loop-place.place c.as_slice.result.now c.placed.view_is c.placed.invariant c.requires.there c.requires.first c.as_slice.ensures c.loop-place-test.true in
    is_place s p c.args.c c.args.station c.loop-place.place is c.len.result c.len.ensures

pub drainer-requires : goal.drainer-requires
drainer-requires c =
    let s = c.placed.inside.system.now in
    let p = c.placed.inside.placement.now in
    let is = on_opened s p c.args.placed.now c.args.c c.args.station c.loop-place.place c.as_slice.result.now c.placed.view_is c.placed.invariant c.requires.there c.requires.first c.as_slice.ensures c.loop-place-test.true in
    is_place s p c.args.c c.args.station c.loop-place.place is c.len.result c.len.ensures

pub bounds-as_slice-station : goal.bounds-as_slice-station
bounds-as_slice-station c =
    let s = c.placed.inside.system.now in
    let p = c.placed.inside.placement.now in
    let is = on_opened s p c.args.placed.now c.args.c c.args.station c.loop-place.place c.as_slice.result.now c.placed.view_is c.placed.invariant c.requires.there c.requires.first c.as_slice.ensures c.loop-place-test.true in
    let less = in_caps s p c.args.c c.args.station c.loop-place.place is in
    let long : length c.as_slice-in-loop-place.result.now ≡ length p.caps = ap length c.as_slice-in-loop-place.ensures in
    omega arith

pub push_station-requires : goal.push_station-requires
push_station-requires c =
    let s = c.placed.inside.system.now in
    let p = c.placed.inside.placement.now in
    let is = on_opened s p c.args.placed.now c.args.c c.args.station c.loop-place.place c.as_slice.result.now c.placed.view_is c.placed.invariant c.requires.there c.requires.first c.as_slice.ensures c.loop-place-test.true in
    let range = capacity_range s p c.args.c c.args.station c.loop-place.place is c.as_slice-in-loop-place.result.now c.as_slice-in-loop-place.ensures in
    let least = range.0 in
    let start = c.start_count.ensures in
    omega (arith, starts_small c.loop-place.place)

pub loop-place-preserved : goal.loop-place-preserved
loop-place-preserved c =
    let s = c.placed.inside.system.now in
    let p = c.placed.inside.placement.now in
    let v = c.args.placed.now in
    let place = c.loop-place.place in
    let station = c.args.station + place in
    let first = c.requires.first in
    let is = on_opened s p v c.args.c c.args.station place c.as_slice.result.now c.placed.view_is c.placed.invariant c.requires.there first c.as_slice.ensures c.loop-place-test.true in
    let cap = ap (λ (ks : List ℕ). get_or ks station 0) c.as_slice-in-loop-place.ensures in
    let same = ap (λ (w : Placing). station_edges (links_in w) w.placement station) c.placed.view_is in
    let edges = edges_there s p c.args.c place station c.filler.result c.drainer.result c.start_count.result _ is.there is.within (omega arith) c.filler.ensures c.drainer.ensures c.start_count.ensures (in_caps s p c.args.c c.args.station place is) cap in
    grown_one (station_edges (links_in v) v.placement) c.args.edges.now.items c.loop-place.edges.items c.push_station.new.edges.items c.args.station place c.loop-place.invariant
    (c.in_ok-push_station.ensures ∙ ap (λ (es : List Edge). c.loop-place.edges.items ++ es) (edges ∙ same))
