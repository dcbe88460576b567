use Rattle.lid_slack_laws.proofs.Texts.{placements_have_slack_texts}
use Rattle.lid_slack_laws.proofs.laws.placements_have_slack_texts.Goals as goal

pub returns : goal.returns
returns c = placements_have_slack_texts
