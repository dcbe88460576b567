use Rattle.std.proofs.Common.{◌≡◌, ◌<◌, ◌≤◌, ◌+◌, ℕ, List, length, get_or, min, take, ap, sym, subst, ◌∙◌, arith}
use Rattle.std.proofs.lemmas.List.{get_or_default}
use Rattle.lid_system.specs.declared.Channel.{Channel}
use Rattle.lid_stations.specs.Stations.{capacity}
use Rattle.lid_stations.proofs.Spots.{few_stations}
use Rattle.lid_stations.specs.Placed.{Placing, links_in}
use Rattle.lid_stations.specs.Placements.{links_of, station_count}
use Rattle.lid_emit_meaning.specs.Sizes.{sizes_from}
use Rattle.lid_emit.proofs.Adding.{cut_sum}
use Rattle.lid_emit.proofs.Stationed.{size_more, size_at}
use Rattle.lid_emit.proofs.stations.channel_size.Goals as goal

pub loop-place-preserved : goal.loop-place-preserved
loop-place-preserved c = rw (← c.placed.view_is) (
    let s = c.placed.inside.system.now in
    let l = links_of s in
    let p = c.placed.inside.placement.now in
    let place = c.loop-place.place in
    let station = c.args.station + place in
    let first = subst (λ (v : Placing). c.args.station ≡ station_count (take c.args.c v.placement.relays)) (sym c.placed.view_is) c.requires.first in
    let there = subst (λ (v : Placing). c.args.c < length v.placement.relays) (sym c.placed.view_is) c.requires.there in
    let summed = subst (λ (v : Placing). c.loop-place.size ≡ min (sizes_from (links_in v) v.placement c.args.station place) 18446744073709551615) (sym c.placed.view_is) c.loop-place.invariant in
    let same : get_or c.as_slice-2.result.now c.args.c 0 ≡ get_or p.relays c.args.c 0 = ap (λ (xs : List ℕ). get_or xs c.args.c 0) c.as_slice-2.ensures in
    let inside : place ≤ get_or p.relays c.args.c 0 = (let t = c.loop-place-test.true in omega arith) in
    let less = few_stations s p c.placed.invariant.formed c.placed.invariant.fits c.args.c place there inside in
    let below : station < length p.caps = omega arith in
    let cap : get_or c.as_slice-in-loop-place.result.now station 0 ≡ capacity p station = ap (λ (xs : List ℕ). get_or xs station 0) c.as_slice-in-loop-place.ensures ∙ get_or_default p.caps station 0 2 below in
    let x = c.index-as_slice-c.result in
    let channel : x ≡ get_or s.channels c.args.c x = c.index-as_slice-c.is ∙ ap (λ (xs : List Channel). get_or xs c.args.c x) c.as_slice.ensures in
    let ports = length c.as_slice-ports.result.now in
    let long : ports ≡ length x.ports = ap length c.as_slice-ports.ensures ∙ ap (λ (x : Channel). length x.ports) (sym c.index-as_slice-c.is) in
    let here = size_at s p c.placed.invariant.fits c.args.c place station _ ports x there inside (omega arith) cap channel long in
    cut_sum c.loop-place.size c.station_size.result c.saturating_add-size.result (sizes_from l p c.args.station place) _ (sizes_from l p c.args.station (place + 1))
    summed c.station_size.ensures c.saturating_add-size.ensures (size_more l p c.args.station place ∙ ap (λ (n : ℕ). sizes_from l p c.args.station place + n) here))
