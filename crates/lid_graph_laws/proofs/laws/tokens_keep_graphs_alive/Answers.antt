use Rattle.lid_graph_laws.proofs.Alive.{tokens_make_ratios, tokens_reach_caps, numbers_show_tokens}
use Rattle.lid_graph_laws.proofs.laws.tokens_keep_graphs_alive.Goals as goal

pub returns : goal.returns
returns c = record { ratios = tokens_make_ratios; caps = tokens_reach_caps; numbers = numbers_show_tokens }
