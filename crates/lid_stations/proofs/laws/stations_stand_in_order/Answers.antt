use Rattle.lid_stations.proofs.Spots.{spot_of_station, station_at_spot}
use Rattle.lid_stations.proofs.laws.stations_stand_in_order.Goals as goal

pub returns : goal.returns
returns c = record { spots = spot_of_station; stations = station_at_spot }
