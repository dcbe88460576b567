-- What lists of numbers show of a graph.
use Rattle.std.proofs.Common.{◌≡◌, ℕ, ◌^◌, ◌<◌, ◌≤◌, List, length, get_or}
use Rattle.lid_graph.specs.declared.graph.Graph.{Graph}
use Rattle.lid_graph.specs.Walks.{WalksHaveTokens}
use Rattle.lid_rate.specs.Rates.{IsLoopAt}
use Rattle.lid_rate.specs.Shown.{IsEdgeShown, ShowsRateable}
use Rattle.lid_graph_laws.proofs.Alive.{numbers_show_tokens}

pub shown_of : (g : Graph) (backs loops numbers : List ℕ) → 1 ≤ g.nodes → g.nodes ≤ 2 ^ 18 → length g.edges < 2 ^ 19 → length backs ≡ length g.edges → length loops ≡ g.nodes → length numbers ≡ g.nodes → ((v : ℕ) → v < g.nodes → IsLoopAt g v (get_or loops v 0)) → ((k : ℕ) → k < length g.edges → IsEdgeShown g k (get_or backs k 0) numbers) → ShowsRateable g backs loops numbers
shown_of g backs loops numbers some nodes edges back_count loop_count number_count at each = record {
  rateable = record {
    paired = record {
      ends = λ k h. record {
        from = (each k h).from;
        to = (each k h).to;
        back = (get_or backs k 0, (each k h).leads_back.within, (each k h).leads_back.from, (each k h).leads_back.to);
      };
      self = λ v h. (get_or loops v 0, (at v h).within, (at v h).from, (at v h).to, (at v h).token);
    };
    some = some;
    nodes = nodes;
    edges = edges;
    tokens = λ k h. (each k h).tokens;
  };
  signs = record {
    back_count = back_count;
    loop_count = loop_count;
    number_count = number_count;
    each_back = λ k h. (each k h).leads_back;
    each_loop = at;
    each_rises = λ k h. (each k h).rises;
  };
}

pub edges_of_shown : (g : Graph) (backs loops numbers : List ℕ) → ShowsRateable g backs loops numbers → (k : ℕ) → k < length g.edges → IsEdgeShown g k (get_or backs k 0) numbers
edges_of_shown g backs loops numbers shown k h = record {
  from = (shown.rateable.paired.ends k h).from;
  to = (shown.rateable.paired.ends k h).to;
  tokens = shown.rateable.tokens k h;
  leads_back = shown.signs.each_back k h;
  rises = shown.signs.each_rises k h;
}

pub tokens_of_shown : (g : Graph) (backs loops numbers : List ℕ) → ShowsRateable g backs loops numbers → WalksHaveTokens g
tokens_of_shown g backs loops numbers shown = numbers_show_tokens g (λ v. get_or numbers v 0) shown.signs.each_rises
