use Rattle.lid_slack.proofs.Tried.{ratio_here_is}
use Rattle.lid_slack.proofs.finding.lower_walk.Goals as goal

pub returns-clause-ratio : goal.returns-clause-ratio
returns-clause-ratio c =
    ratio_here_is c.args.probe.now.system.now c.args.probe.now.placement.now c.args.probe.now.channel c.args.more c.ratio_of.result.p c.ratio_of.result.q c.in_ok-outcome.outcome.trial.cert c.in_ok-outcome.outcome.trial.part c.in_ok-outcome.ensures.trial c.ratio_of.ensures.p c.ratio_of.ensures.q
