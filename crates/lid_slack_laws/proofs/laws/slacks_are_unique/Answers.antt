use Rattle.lid_slack_laws.proofs.Had.{slacks_are_unique}
use Rattle.lid_slack_laws.proofs.laws.slacks_are_unique.Goals as goal

pub returns : goal.returns
returns c = slacks_are_unique
