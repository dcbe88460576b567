use Rattle.lid_stations_text.proofs.PrintedPlacements.{printed_stations_are_read_back as law}
use Rattle.lid_stations_text.proofs.laws.printed_stations_are_read_back.Goals as goal

pub returns : goal.returns
returns c = law
