use Rattle.lid_slack_longer.proofs.Kept.{none_are_none}
use Rattle.lid_slack_longer.proofs.laws.none_are_none.Goals as goal

pub returns : goal.returns
returns c = none_are_none
