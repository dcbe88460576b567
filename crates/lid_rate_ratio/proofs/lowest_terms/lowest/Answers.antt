use Rattle.lid_graph_ratio_laws.proofs.Lowest.{positive_gcd}
use Rattle.lid_rate_ratio.proofs.Ratios.{is_lowest}
use Rattle.lid_rate_ratio.proofs.lowest_terms.lowest.Goals as goal

pub nonzero_div-result : goal.nonzero_div-result
nonzero_div-result c = positive_gcd c.args.tokens c.args.edges c.gcd-common.result c.requires c.gcd-common.ensures

pub nonzero_div-result-2 : goal.nonzero_div-result-2
nonzero_div-result-2 c = positive_gcd c.args.tokens c.args.edges c.gcd-common.result c.requires c.gcd-common.ensures

pub returns : goal.returns
returns c = is_lowest c.args.tokens c.args.edges c.gcd-common.result c.requires c.gcd-common.ensures
