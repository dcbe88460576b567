use Rattle.std.proofs.Common.{ℕ, ◌*◌, ◌<◌, length, sym, subst}
use Rattle.lid_graph.specs.declared.graph.Graph.{Graph}
use Rattle.lid_slack.specs.Labelled.{present_marking}
use Rattle.lid_slack.proofs.Shown.{edge_within, walk_within}
use Rattle.lid_slack.proofs.labelled.way_ratio.Goals as goal

pub edge-requires : goal.edge-requires
edge-requires c =
    subst (λ (g : Graph). 2 * c.last_station-station.result < length g.edges) (sym c.requires.graph)
    (subst (λ (n : ℕ). 2 * n < length (present_marking c.args.probe.now).edges) (sym c.last_station-station.ensures.is)
    (edge_within c.args.probe.now.system.now c.args.probe.now.placement.now c.args.probe.now.channel c.args.more c.requires.can))

pub tokens_on-requires-clause-within : goal.tokens_on-requires-clause-within
tokens_on-requires-clause-within c = walk_within c.args.graph.now c.args.way.now _ _ (c.is_way.ensures.0 c.if-not-is_way.false).leads
