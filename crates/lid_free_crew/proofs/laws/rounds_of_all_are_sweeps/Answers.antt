use Rattle.lid_free_crew.proofs.Sweeping.{rounds_sweep}
use Rattle.lid_free_crew.proofs.laws.rounds_of_all_are_sweeps.Goals as goal

pub returns : goal.returns
returns c = rounds_sweep
