use Rattle.lid_rate.proofs.Lagging.{lags_meet_rule, rule_bounds_firings}
use Rattle.lid_rate.proofs.laws.lag_rule_bounds_firings.Goals as goal

pub returns : goal.returns
returns c = record { lags = lags_meet_rule; firings = rule_bounds_firings }
