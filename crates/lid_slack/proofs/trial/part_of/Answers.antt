use Rattle.std.proofs.Common.{refl}
use Rattle.lid_slack.proofs.Tried.{some_part}
use Rattle.lid_slack.proofs.trial.part_of.Goals as goal

pub returns-in-None-clause-stands : goal.returns-in-None-clause-stands
returns-in-None-clause-stands c = absurd (some_part c.args.graph.now c.args.cert.now c.args.v c.requires.graph.paired c.requires.cert c.requires.within (c.in-None.ensures.none refl))
