use Rattle.std.proofs.Common.{◌≡◌, ℕ, ◌+◌, List, length, get_or, ap, subst, ◌∙◌, zero-add, arith}
use Rattle.std.proofs.lemmas.List.Sums.{sum_by_more}
use Rattle.lid_stations.specs.Placed.{Placing}
use Rattle.lid_stations.specs.Placements.{links_of}
use Rattle.lid_emit_meaning.specs.Sizes.{sizes_from}
use Rattle.lid_emit.proofs.Adding.{cut_sum}
use Rattle.lid_emit.proofs.Stationed.{sizes_more}
use Rattle.lid_emit.proofs.stations.stations_size.Goals as goal

pub loop-c-preserved : goal.loop-c-preserved
loop-c-preserved c =
    let l = links_of c.args.placed.now.system in
    let p = c.args.placed.now.placement in
    let station = c.loop-c.station in
    let k = get_or p.relays c.loop-c.c 0 in
    let same : get_or c.as_slice.result.now c.loop-c.c 0 ≡ k = ap (λ (xs : List ℕ). get_or xs c.loop-c.c 0) (subst (λ (v : Placing). c.as_slice.result.now ≡ v.placement.relays) c.placed.view_is c.as_slice.ensures) in
    let counted = c.loop-c.invariant.counted in
    let below = c.loop-c-test.true in
    let more : sizes_from l p 0 (station + (get_or c.as_slice.result.now c.loop-c.c 0 + 1)) ≡ sizes_from l p 0 station + sizes_from l p station (k + 1) =
    ap (λ (n : ℕ). sizes_from l p 0 (station + (n + 1))) same
    ∙ sizes_more l p 0 station (k + 1)
    ∙ ap (λ (n : ℕ). sizes_from l p 0 station + sizes_from l p n (k + 1)) (zero-add station) in
    record {
      counted = omega (arith, sum_by_more (λ (k : ℕ). k + 1) p.relays c.loop-c.c 0 (omega (arith, subst (λ (v : Placing). c.len-c-end.result ≡ length v.placement.relays) c.placed.view_is c.len-c-end.ensures)));
      summed = cut_sum c.loop-c.size c.channel_size.result c.saturating_add-size.result (sizes_from l p 0 station) (sizes_from l p station (k + 1)) _ c.loop-c.invariant.summed c.channel_size.ensures c.saturating_add-size.ensures more;
    }
