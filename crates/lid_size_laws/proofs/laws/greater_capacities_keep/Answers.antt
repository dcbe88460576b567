use Rattle.lid_size_laws.proofs.Forward.{greater_keep}
use Rattle.lid_size_laws.proofs.laws.greater_capacities_keep.Goals as goal

pub returns : goal.returns
returns c = greater_keep
