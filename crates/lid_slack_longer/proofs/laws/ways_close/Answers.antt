use Rattle.lid_slack_longer.proofs.Labelling.{ways_close}
use Rattle.lid_slack_longer.proofs.laws.ways_close.Goals as goal

pub returns : goal.returns
returns c = ways_close
