-- One channel more is listed.
use Rattle.std.proofs.Common.{◌≡◌, ◌<◌, ℕ, List, length, get_or, ap, subst, ◌∙◌, arith}
use Rattle.std.proofs.lemmas.List.{get_or_default}
use Rattle.lid_system.specs.declared.Channel.{Channel}
use Rattle.lid_stations.specs.Placed.{Placing, IsPlaced}
use Rattle.lid_stations.specs.Stations.{no_channel}
use Rattle.lid_walk.proofs.Listed.{next_first, all_next}
use Rattle.lid_walk.proofs.ends.stations_by.Goals as goal

pub loop-c-preserved : goal.loop-c-preserved
loop-c-preserved c =
    let s = c.args.placed.now.system in
    let p = c.args.placed.now.placement in
    let i = c.loop-c.c in
    let placed : IsPlaced c.args.placed.now.system c.args.placed.now.placement = subst (λ (v : Placing). IsPlaced v.system v.placement) c.placed.view_is c.placed.invariant in
    let relays : c.placed.inside.placement.now.relays ≡ p.relays = ap (λ (v : Placing). v.placement.relays) c.placed.view_is in
    let many = placed.fits.counts in
    let there : i < length p.relays = omega (arith, ap length relays, c.len-c-end.ensures, c.loop-c-test.true) in
    let k : get_or c.as_slice.result.now i 0 ≡ get_or p.relays i 0 = ap (λ (xs : List ℕ). get_or xs i 0) (c.as_slice.ensures ∙ relays) in
    let channel : c.index-as_slice-c.result ≡ get_or s.channels i no_channel =
    c.index-as_slice-c.is
    ∙ ap (λ (xs : List Channel). get_or xs i c.index-as_slice-c.result) (c.as_slice-in-loop-c.ensures ∙ ap (λ (v : Placing). v.system.channels) c.placed.view_is)
    ∙ get_or_default s.channels i c.index-as_slice-c.result no_channel (omega (arith, many)) in
    let counted = c.loop-c.invariant.counted in
    let next = next_first s p placed.fits i there in
    record {
      counted = omega arith;
      listed = all_next s p placed.fits i there c.args.side c.loop-c.first (get_or c.as_slice.result.now i 0) c.index-as_slice-c.result c.loop-c.lists.items c.push_end.new.lists.items
          counted k channel c.loop-c.invariant.listed c.in_ok-push_end.ensures;
    }
