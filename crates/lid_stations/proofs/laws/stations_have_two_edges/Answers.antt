use Rattle.lid_stations.proofs.Edges.{two_there, selves_there, no_others}
use Rattle.lid_stations.proofs.laws.stations_have_two_edges.Goals as goal

pub returns : goal.returns
returns c = record { two = two_there; selves = selves_there; others = no_others }
