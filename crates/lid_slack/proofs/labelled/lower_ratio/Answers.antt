use Rattle.lid_slack.proofs.Shown.{way_lowers, way_shows}
use Rattle.lid_slack.proofs.labelled.lower_ratio.Goals as goal

pub returns-clause-lowers : goal.returns-clause-lowers
returns-clause-lowers c =
    way_lowers c.args.probe.now.system.now c.args.probe.now.placement.now c.args.probe.now.channel c.args.more c.in-Some.ratio.p c.in-Some.ratio.q c.requires.can c.args.graph.now c.requires.graph c.args.way.now c.in-Some.ensures
    c.args.probe.now.present.p c.args.probe.now.present.q (c.is_below.ensures.0 c.if-not-is_below.false)

pub returns-clause-ratio : goal.returns-clause-ratio
returns-clause-ratio c =
    way_shows c.args.probe.now.system.now c.args.probe.now.placement.now c.args.probe.now.channel c.args.more c.in-Some.ratio.p c.in-Some.ratio.q c.requires.can c.args.graph.now c.requires.graph c.args.way.now c.in-Some.ensures
    (c.do_labels_show.ensures c.if-not-do_labels_show.false)
