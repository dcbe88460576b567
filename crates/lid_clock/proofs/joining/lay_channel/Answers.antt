-- The stations of a channel are laid at its places, one by one.
use Rattle.std.proofs.Common.{◌≡◌, ◌+◌, length, ap, sym, subst, arith}
use Rattle.lid_stations.specs.Placed.{Placing, links_in}
use Rattle.lid_stations.proofs.Spots.{first_station}
use Rattle.lid_stations.proofs.Standing.{on_opened, is_place, in_caps, capacity_range}
use Rattle.lid_clock.specs.Starts.{HasLaid}
use Rattle.lid_clock.proofs.Joined.{keeps_new}
use Rattle.lid_clock.proofs.Laid.{joinable, one_laid}
use Rattle.lid_clock.proofs.joining.lay_channel.Goals as goal

pub overflow_sub-first : goal.overflow_sub-first
overflow_sub-first c = let there = c.requires.there in let first = c.requires.first in omega (arith, first_station c.args.placed.now.placement.relays c.args.c (omega arith))

pub filler-requires : goal.filler-requires
filler-requires c =
    let s = c.placed.inside.system.now in
    let p = c.placed.inside.placement.now in
    let is = on_opened s p c.args.placed.now c.args.c c.args.station c.loop-place.place c.as_slice.result.now c.placed.view_is c.placed.invariant c.requires.there c.requires.first c.as_slice.ensures c.loop-place-test.true in
    is_place s p c.args.c c.args.station c.loop-place.place is c.len.result c.len.ensures

pub drainer-requires : goal.drainer-requires
drainer-requires c =
    let s = c.placed.inside.system.now in
    let p = c.placed.inside.placement.now in
    let is = on_opened s p c.args.placed.now c.args.c c.args.station c.loop-place.place c.as_slice.result.now c.placed.view_is c.placed.invariant c.requires.there c.requires.first c.as_slice.ensures c.loop-place-test.true in
    is_place s p c.args.c c.args.station c.loop-place.place is c.len.result c.len.ensures

pub bounds-as_slice-number : goal.bounds-as_slice-number
bounds-as_slice-number c =
    let s = c.placed.inside.system.now in
    let p = c.placed.inside.placement.now in
    let is = on_opened s p c.args.placed.now c.args.c c.args.station c.loop-place.place c.as_slice.result.now c.placed.view_is c.placed.invariant c.requires.there c.requires.first c.as_slice.ensures c.loop-place-test.true in
    let below = in_caps s p c.args.c c.args.station c.loop-place.place is in
    let long : length c.as_slice-in-loop-place.result.now ≡ length p.caps = ap length c.as_slice-in-loop-place.ensures in
    omega arith

pub lay-requires-clause-joins : goal.lay-requires-clause-joins
lay-requires-clause-joins c =
    let s = c.placed.inside.system.now in
    let p = c.placed.inside.placement.now in
    let is = on_opened s p c.args.placed.now c.args.c c.args.station c.loop-place.place c.as_slice.result.now c.placed.view_is c.placed.invariant c.requires.there c.requires.first c.as_slice.ensures c.loop-place-test.true in
    let laid = subst (λ (v : Placing). HasLaid (links_in v) v.placement (c.args.station + c.loop-place.place) c.loop-place.actors c.loop-place.stations.items) (sym c.placed.view_is) c.loop-place.invariant.laid in
    joinable s p c.args.c c.args.station c.loop-place.place is c.filler.result c.drainer.result c.loop-place.actors c.loop-place.stations.items c.filler.ensures c.drainer.ensures laid

pub lay-requires-clause-some : goal.lay-requires-clause-some
lay-requires-clause-some c =
    let s = c.placed.inside.system.now in
    let p = c.placed.inside.placement.now in
    let is = on_opened s p c.args.placed.now c.args.c c.args.station c.loop-place.place c.as_slice.result.now c.placed.view_is c.placed.invariant c.requires.there c.requires.first c.as_slice.ensures c.loop-place-test.true in
    (capacity_range s p c.args.c c.args.station c.loop-place.place is c.as_slice-in-loop-place.result.now c.as_slice-in-loop-place.ensures).0

pub lay-requires-clause-few : goal.lay-requires-clause-few
lay-requires-clause-few c =
    let s = c.placed.inside.system.now in
    let p = c.placed.inside.placement.now in
    let is = on_opened s p c.args.placed.now c.args.c c.args.station c.loop-place.place c.as_slice.result.now c.placed.view_is c.placed.invariant c.requires.there c.requires.first c.as_slice.ensures c.loop-place-test.true in
    (capacity_range s p c.args.c c.args.station c.loop-place.place is c.as_slice-in-loop-place.result.now c.as_slice-in-loop-place.ensures).1

pub loop-place-preserved : goal.loop-place-preserved
loop-place-preserved c =
    let s = c.placed.inside.system.now in
    let p = c.placed.inside.placement.now in
    let is = on_opened s p c.args.placed.now c.args.c c.args.station c.loop-place.place c.as_slice.result.now c.placed.view_is c.placed.invariant c.requires.there c.requires.first c.as_slice.ensures c.loop-place-test.true in
    let laid = subst (λ (v : Placing). HasLaid (links_in v) v.placement (c.args.station + c.loop-place.place) c.loop-place.actors c.loop-place.stations.items) (sym c.placed.view_is) c.loop-place.invariant.laid in
    let more = one_laid s p c.args.c c.args.station c.loop-place.place is c.filler.result c.drainer.result c.as_slice-in-loop-place.result.now c.loop-place.actors c.lay.new.actors c.loop-place.stations.items c.push.new.self.items c.in_ok-lay.field-0
    c.filler.ensures c.drainer.ensures c.as_slice-in-loop-place.ensures laid c.in_ok-lay.ensures.joins c.in_ok-lay.ensures.empty c.in_ok-lay.ensures.slot c.in_ok-push.ensures.items in
    record {
      laid = subst (λ (v : Placing). HasLaid (links_in v) v.placement (c.args.station + (c.loop-place.place + 1)) c.lay.new.actors c.push.new.self.items) c.placed.view_is more;
      new = λ rows first are. keeps_new c.args.placed.now.system (c.args.station + c.loop-place.place) c.filler.result c.drainer.result c.loop-place.actors c.lay.new.actors c.in_ok-lay.ensures.joins rows first (c.loop-place.invariant.new rows first are);
    }
