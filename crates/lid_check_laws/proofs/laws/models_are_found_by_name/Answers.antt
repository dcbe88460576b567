use Rattle.lid_check_laws.proofs.Below.{found_named}
use Rattle.lid_check_laws.proofs.laws.models_are_found_by_name.Goals as goal

pub returns : goal.returns
returns c d m name formed among named = found_named d.models m name formed.distinct among named
