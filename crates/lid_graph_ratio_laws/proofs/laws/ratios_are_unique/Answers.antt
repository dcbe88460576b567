use Rattle.lid_graph_ratio_laws.proofs.Single.{ratios_are_unique, lags_are_unique}
use Rattle.lid_graph_ratio_laws.proofs.laws.ratios_are_unique.Goals as goal

pub returns : goal.returns
returns c = record { ratios = ratios_are_unique; lags = lags_are_unique }
