use Rattle.std.proofs.Common.{sym, subst}
use Rattle.lid_stations.specs.declared.placement.Placement.{Placement}
use Rattle.lid_stations.specs.Placements.{Fits}
use Rattle.lid_slack_longer.proofs.Kept.{longer_fits}
use Rattle.lid_slack.proofs.trial.longer_marking.Goals as goal

pub marking-requires-clause-fits : goal.marking-requires-clause-fits
marking-requires-clause-fits c = subst (λ (p : Placement). Fits c.args.probe.now.system.now p) (sym c.in_ok-longer.ensures) (longer_fits c.args.probe.now.system.now c.args.probe.now.placement.now c.args.probe.now.channel c.args.more c.requires.fits c.requires.there c.requires.enough)
