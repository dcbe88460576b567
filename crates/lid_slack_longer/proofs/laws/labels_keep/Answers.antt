use Rattle.lid_slack_longer.proofs.Labelling.{labels_keep}
use Rattle.lid_slack_longer.proofs.laws.labels_keep.Goals as goal

pub returns : goal.returns
returns c = labels_keep
