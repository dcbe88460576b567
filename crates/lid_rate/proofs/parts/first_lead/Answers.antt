use Rattle.std.proofs.Common.{◌-◌}
use Rattle.lid_rate.proofs.Finishing.{lead_enough}
use Rattle.lid_rate.proofs.parts.first_lead.Goals as goal

pub returns-clause-enough : goal.returns-clause-enough
returns-clause-enough c = lead_enough c.args.ratio.p c.args.ratio.q c.saturating_sub.result (c.args.count - 1) c.saturating_sub.ensures
