use Rattle.lid_size.proofs.Spare.{none_spare}
use Rattle.lid_size.proofs.laws.no_place_is_spare.Goals as goal

pub returns : goal.returns
returns c = none_spare
