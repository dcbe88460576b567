use Rattle.lid_slack_longer.proofs.Kept.{fewer_keep}
use Rattle.lid_slack_longer.proofs.laws.fewer_keep.Goals as goal

pub returns : goal.returns
returns c = fewer_keep
