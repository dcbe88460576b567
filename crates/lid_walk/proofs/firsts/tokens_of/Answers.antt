-- All nodes but the sink have written their tokens.
use Rattle.std.proofs.Common.{length, ◌∙◌, ap, subst}
use Rattle.lid_stations.specs.Placed.{Placing, IsPlaced}
use Rattle.lid_walk.proofs.Begun.{all_begin}
use Rattle.lid_base.proofs.Lists.{refilled}
use Rattle.lid_walk.proofs.firsts.tokens_of.Goals as goal

pub returns : goal.returns
returns c = λ m of.
    let placed : IsPlaced c.args.placed.now.system c.args.placed.now.placement = subst (λ (v : Placing). IsPlaced v.system v.placement) c.placed.view_is c.placed.invariant in
    refilled c.in_ok-firsts.firsts.len c.write_nodes.new.firsts c.in_ok-firsts.firsts.items (c.in_ok-write_nodes.ensures.many ∙ c.as_mut_slice.ensures.len)
    ∙ all_begin c.actors_go_by_rules.ensures m c.args.placed.now c.args.row.now c.len.result c.as_mut_slice.result.now c.write_nodes.new.firsts placed.fits of (c.len.ensures ∙ ap (λ (v : Placing). length v.placement.caps) c.placed.view_is)
    (c.as_mut_slice.ensures.value ∙ c.in_ok-firsts.ensures) c.in_ok-write_nodes.ensures.many (c.in_ok-write_nodes.ensures.firsts m of)
