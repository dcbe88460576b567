use Rattle.lid_graph_laws.proofs.Walking.{walks_keep_back, lag_bounds_firings}
use Rattle.lid_graph_laws.proofs.laws.lags_bound_firings.Goals as goal

pub returns : goal.returns
returns c = record { walks = walks_keep_back; counts = lag_bounds_firings }
