use Rattle.std.proofs.Common.{length, ◌≡◌, ℕ, ◌+◌, List, ◌++◌, flat_map, get_or, ap, sym, ◌∙◌, zero-add, arith}
use Rattle.std.proofs.lemmas.List.Sums.{sum_by_more}
use Rattle.lid_base.specs.Each.{from_each}
use Rattle.lid_stations.specs.Placed.{Placing, links_in}
use Rattle.lid_stations.specs.Markings.{station_edges}
use Rattle.lid_stations.proofs.Parts.{grown}
use Rattle.lid_stations.proofs.marked_graph.push_stations.Goals as goal

pub loop-c-preserved : goal.loop-c-preserved
loop-c-preserved c =
    let v = c.args.placed.now in
    let p = v.placement in
    let relays = ap (λ (w : Placing). w.placement.relays) c.placed.view_is in
    let old = c.args.edges.now.items in
    let es = c.loop-c.edges.items in
    let station = c.loop-c.station in
    let k = get_or p.relays c.loop-c.c 0 in
    let same : get_or c.as_slice.result.now c.loop-c.c 0 ≡ k = ap (λ (xs : List ℕ). get_or xs c.loop-c.c 0) (c.as_slice.ensures ∙ relays) in
    let counted = c.loop-c.invariant.counted in
    let below = c.loop-c-test.true in
    record {
      counted = omega (arith, sum_by_more (λ (k : ℕ). k + 1) p.relays c.loop-c.c 0 (omega (arith, ap length relays, c.len-c-end.ensures)));
      pushed = grown (station_edges (links_in v) p) old es c.push_channel.new.edges.items 0 station (k + 1) c.loop-c.invariant.pushed
          (c.in_ok-push_channel.ensures ∙ ap (λ (n : ℕ). es ++ flat_map (station_edges (links_in v) p) (from_each (λ j. j) n (k + 1))) (sym (zero-add station)))
          ∙ ap (λ (n : ℕ). old ++ flat_map (station_edges (links_in v) p) (from_each (λ j. j) 0 (station + (n + 1)))) (sym same);
    }
