use Rattle.lid_slack_longer.proofs.Kept.{longer_fits}
use Rattle.lid_slack_longer.proofs.laws.further_stations_fit.Goals as goal

pub returns : goal.returns
returns c = longer_fits
