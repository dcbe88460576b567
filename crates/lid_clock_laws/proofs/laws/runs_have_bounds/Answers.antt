use Rattle.lid_clock_laws.proofs.Had.{runs_have_bounds}
use Rattle.lid_clock_laws.proofs.laws.runs_have_bounds.Goals as goal

pub returns : goal.returns
returns c = runs_have_bounds
