use Rattle.lid_stations.proofs.Alive.{rateable, have_tokens}
use Rattle.lid_stations.proofs.laws.markings_are_alive.Goals as goal

pub returns : goal.returns
returns c = record { rateable = rateable; tokens = have_tokens }
