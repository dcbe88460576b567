-- Another channel's stations were laid.
use Rattle.std.proofs.Common.{◌≡◌, ℕ, ◌+◌, ◌∙◌, List, get_or, length, ap, sym, subst, arith}
use Rattle.std.proofs.lemmas.List.Sums.{sum_by_more}
use Rattle.lid_stations.specs.Placed.{Placing, links_in}
use Rattle.lid_clock.specs.Starts.{HasLaid}
use Rattle.lid_clock.proofs.joining.lay_stations.Goals as goal

pub loop-c-preserved : goal.loop-c-preserved
loop-c-preserved c =
    let v = c.args.placed.now in
    let relays : c.placed.inside.placement.now.relays ≡ v.placement.relays = ap (λ (w : Placing). w.placement.relays) c.placed.view_is in
    let same : get_or c.as_slice.result.now c.loop-c.c 0 ≡ get_or v.placement.relays c.loop-c.c 0 = ap (λ (xs : List ℕ). get_or xs c.loop-c.c 0) (c.as_slice.ensures ∙ relays) in
    let counted = c.loop-c.invariant.counted in
    let below = c.loop-c-test.true in
    record {
      counted = omega (arith, sum_by_more (λ (k : ℕ). k + 1) v.placement.relays c.loop-c.c 0 (omega (arith, ap length relays, c.len-c-end.ensures)));
      laid = subst (λ (n : ℕ). HasLaid (links_in v) v.placement (c.loop-c.station + (n + 1)) c.lay_channel.new.actors c.lay_channel.new.stations.items) (sym same) c.in_ok-lay_channel.ensures.laid;
      new = λ rows first are. c.in_ok-lay_channel.ensures.new rows first (c.loop-c.invariant.new rows first are);
    }
