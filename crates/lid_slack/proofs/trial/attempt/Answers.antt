use Rattle.std.proofs.Common.{◌≡◌, ℕ, ◌<◌, true, sym, subst}
use Rattle.lid_graph.specs.declared.graph.Graph.{Graph}
use Rattle.lid_cert.specs.Certificates.{has_node, part_at}
use Rattle.lid_stations.specs.Placements.{links_of}
use Rattle.lid_slack_longer.specs.Longer.{producer}
use Rattle.lid_slack.proofs.Tried.{producer_within, trial_is}
use Rattle.lid_slack.proofs.trial.attempt.Goals as goal

pub part_of-part-requires-clause-within : goal.part_of-part-requires-clause-within
part_of-part-requires-clause-within c =
    subst (λ (v : ℕ). v < c.in_ok-graph.graph.nodes) (sym c.producer.ensures)
    (subst (λ (g : Graph). producer (links_of c.args.probe.now.system.now) c.args.probe.now.channel < g.nodes) (sym c.in_ok-graph.ensures.is) (producer_within c.args.probe.now.system.now c.args.probe.now.placement.now c.args.probe.now.channel c.args.more c.requires))

pub returns : goal.returns
returns c =
    trial_is c.args.probe.now.system.now c.args.probe.now.placement.now c.args.probe.now.channel c.args.more c.in_ok-graph.graph c.in_ok-cert.cert c.part_of-part.result
    c.in_ok-graph.ensures.is c.in_ok-cert.ensures.certifies c.in_ok-cert.ensures.exact c.part_of-part.ensures.within
    (subst (λ (v : ℕ). has_node (part_at c.in_ok-cert.cert.parts c.part_of-part.result) v ≡ true) c.producer.ensures c.part_of-part.ensures.stands)
