use Rattle.lid_graph_ratio_laws.proofs.Single.{components_have_ratios}
use Rattle.lid_graph_ratio_laws.proofs.laws.components_have_ratios.Goals as goal

pub returns : goal.returns
returns c = components_have_ratios
