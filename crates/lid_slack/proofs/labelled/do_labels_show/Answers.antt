use Rattle.std.proofs.Common.{ℕ, subst}
use Rattle.lid_stations.specs.Placements.{links_of}
use Rattle.lid_slack_longer.specs.Longer.{producer}
use Rattle.lid_slack_longer.specs.Labels.{AreKeepingLabels}
use Rattle.lid_slack.proofs.Shown.{labels_show}
use Rattle.lid_slack.proofs.labelled.do_labels_show.Goals as goal

pub returns : goal.returns
returns c holds =
    labels_show c.args.probe.now.system.now c.args.probe.now.placement.now c.args.probe.now.channel c.args.more c.args.ratio.p c.args.ratio.q c.args.graph.now c.args.labels.now c.requires.can c.requires.some c.requires.graph
    (subst (λ (n : ℕ). AreKeepingLabels c.args.graph.now n (producer (links_of c.args.probe.now.system.now) c.args.probe.now.channel) c.args.more c.args.ratio.p c.args.ratio.q c.args.labels.now) c.last_station.ensures.is
    (subst (λ (v : ℕ). AreKeepingLabels c.args.graph.now c.last_station.result v c.args.more c.args.ratio.p c.args.ratio.q c.args.labels.now) c.producer-start.ensures (c.are_labels.ensures.0 holds)))
