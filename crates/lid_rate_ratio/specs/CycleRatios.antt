-- For the loops: the least ratio of the closed walks on a list of edges.
use Rattle.std.specs.Prelude.{◌≡◌, ℕ, ◌*◌, ◌≤◌, List, length}
use Rattle.std.specs.Int.{IsGcd}
use Rattle.std.specs.List.{Contains}
use Rattle.lid_graph.specs.declared.graph.Graph.{Graph}
use Rattle.lid_graph.specs.Walks.{edge_at, walk_tokens}
use Rattle.lid_rate_ratio.specs.WalksBack.{IsCycleOn}
use Rattle.lid_rate_ratio.specs.BellmanFord.{AreLags}

-- p/q is tokens/edges in lowest terms
pub record IsLowest (tokens edges p q : ℕ) : Type 0 where
  pub positive : 1 ≤ q
  pub coprime : IsGcd p q 1
  pub same : q * tokens ≡ p * edges
  pub least_p : p ≤ tokens
  pub least_q : q ≤ edges

-- a closed walk on the edges whose tokens are p/q of its edges
pub record IsRated (g : Graph) (es : List ℕ) (p q : ℕ) (walk : List ℕ) : Type 0 where
  pub cycle : IsCycleOn g es walk
  pub lowest : IsLowest (walk_tokens g cycle.chain) (length cycle.chain) p q
  pub few : p ≤ 16 * length cycle.chain

-- the ratio of the closed walks on the edges, and the lags
pub record IsRate (g : Graph) (es : List ℕ) (p q : ℕ) (walk lags : List ℕ) : Type 0 where
  pub rated : IsRated g es p q walk
  pub are_lags : AreLags g es p q lags

-- an edge of the list from a transition to itself, with one token
pub record IsOneTokenLoop (g : Graph) (es : List ℕ) (k : ℕ) : Type 0 where
  pub listed : Contains es k
  pub loops : (edge_at g k).from ≡ (edge_at g k).to
  pub tokens : (edge_at g k).tokens ≡ 1
