use Rattle.lid_board.proofs.Prefixing.{keep_prefixes}
use Rattle.lid_board.proofs.laws.stations_keep_prefixes.Goals as goal

pub returns : goal.returns
returns c = keep_prefixes
