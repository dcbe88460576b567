use Rattle.lid_size.proofs.Spare.{greater_reach}
use Rattle.lid_size.proofs.laws.greater_capacities_reach.Goals as goal

pub returns : goal.returns
returns c = greater_reach
