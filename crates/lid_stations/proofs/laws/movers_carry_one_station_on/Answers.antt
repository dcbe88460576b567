use Rattle.lid_stations.proofs.Movers.{carries}
use Rattle.lid_stations.proofs.laws.movers_carry_one_station_on.Goals as goal

pub returns : goal.returns
returns c s p m well fits past most = carries s p well fits m past most
