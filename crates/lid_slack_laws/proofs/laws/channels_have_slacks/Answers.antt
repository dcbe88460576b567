use Rattle.lid_slack_laws.proofs.Had.{channels_have_slacks}
use Rattle.lid_slack_laws.proofs.laws.channels_have_slacks.Goals as goal

pub returns : goal.returns
returns c = channels_have_slacks
