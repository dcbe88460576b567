use Rattle.std.proofs.Common.{◌≡◌, ℕ, ◌<◌, true, length, sym, subst}
use Rattle.lid_cert.specs.Certificates.{has_node, part_at}
use Rattle.lid_stations.specs.Placed.{Placing, IsPlaced, links_in}
use Rattle.lid_slack_longer.specs.Longer.{producer}
use Rattle.lid_slack.specs.Trials.{CanTry}
use Rattle.lid_slack.proofs.Tried.{can_none, certified_rateable, certified_within, present_is}
use Rattle.lid_slack.proofs.labelled.present_ratio.Goals as goal

-- the placed system has the channel
can : (inside now : Placing) (channel : ℕ) → inside ≡ now → IsPlaced inside.system inside.placement → channel < length now.system.channels → CanTry now.system now.placement channel 0
can inside now channel is placed there = can_none now.system now.placement channel (subst (λ (v : Placing). IsPlaced v.system v.placement) is placed) there

pub part_of-number-requires-clause-graph : goal.part_of-number-requires-clause-graph
part_of-number-requires-clause-graph c =
    certified_rateable c.args.placed.now.system c.args.placed.now.placement c.args.channel c.args.present.now (can _ _ c.args.channel c.placed.view_is c.placed.invariant c.requires.channel) c.requires.present

pub part_of-number-requires-clause-within : goal.part_of-number-requires-clause-within
part_of-number-requires-clause-within c =
    subst (λ (v : ℕ). v < c.args.present.now.graph.nodes) (sym (subst (λ (v : Placing). c.producer.result ≡ producer (links_in v) c.args.channel) c.placed.view_is c.producer.ensures))
    (certified_within c.args.placed.now.system c.args.placed.now.placement c.args.channel c.args.present.now (can _ _ c.args.channel c.placed.view_is c.placed.invariant c.requires.channel) c.requires.present)

pub returns : goal.returns
returns c =
    present_is c.args.placed.now.system c.args.placed.now.placement c.args.channel c.args.present.now (can _ _ c.args.channel c.placed.view_is c.placed.invariant c.requires.channel) c.requires.present c.ratio_of.result.p c.ratio_of.result.q c.part_of-number.result c.part_of-number.ensures.within
    (subst (λ (v : ℕ). has_node (part_at c.args.present.now.cert.parts c.part_of-number.result) v ≡ true) (subst (λ (v : Placing). c.producer.result ≡ producer (links_in v) c.args.channel) c.placed.view_is c.producer.ensures) c.part_of-number.ensures.stands)
    c.ratio_of.ensures.p c.ratio_of.ensures.q
