use Rattle.lid_stations.proofs.Spots.{stands_between}
use Rattle.lid_stations.proofs.laws.stations_stand_between_actors.Goals as goal

pub returns : goal.returns
returns c s p station well fits h = stands_between s p well fits station h
