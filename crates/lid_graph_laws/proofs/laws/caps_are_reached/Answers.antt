use Rattle.lid_graph_laws.proofs.Walking.{lag_bounds_cycles}
use Rattle.lid_graph_laws.proofs.laws.caps_are_reached.Goals as goal

pub returns : goal.returns
returns c = lag_bounds_cycles
