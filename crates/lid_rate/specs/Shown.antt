-- Lists of numbers that show that a graph has a certificate.
use Rattle.std.specs.Prelude.{◌≡◌, ℕ, ◌<◌, ◌≤◌, List, length, slice_index}
use Rattle.lid_graph.specs.declared.graph.Graph.{Graph}
use Rattle.lid_graph.specs.Walks.{edge_at}
use Rattle.lid_graph.specs.Rateable.{IsRateable}
use Rattle.lid_rate.specs.Rates.{IsLoopAt}

-- an edge leads from the end of another to its beginning
pub record IsBackEdge (g : Graph) (k back : ℕ) : Type 0 where
  pub within : back < length g.edges
  pub from : (edge_at g back).from ≡ (edge_at g k).to
  pub to : (edge_at g back).to ≡ (edge_at g k).from

-- an edge without tokens leads to a greater number
abbrev pub LeadsUp : Graph → List ℕ → ℕ → Type 0
LeadsUp g numbers k =
    (edge_at g k).tokens ≡ 0 → slice_index numbers (edge_at g k).from < slice_index numbers (edge_at g k).to

-- what is asked of one edge, its ends lying below the number of transitions
pub record IsEdgeShown (g : Graph) (k back : ℕ) (numbers : List ℕ) : Type 0 where
  pub from : (edge_at g k).from < g.nodes
  pub to : (edge_at g k).to < g.nodes
  pub tokens : (edge_at g k).tokens ≤ 16
  pub leads_back : IsBackEdge g k back
  pub rises : LeadsUp g numbers k

-- for each edge one that leads back, for each transition an edge to itself with one token, and for each
-- transition a number that rises along every edge without tokens
pub record AreSigns (g : Graph) (backs loops numbers : List ℕ) : Type 0 where
  pub back_count : length backs ≡ length g.edges
  pub loop_count : length loops ≡ g.nodes
  pub number_count : length numbers ≡ g.nodes
  pub each_back : (k : ℕ) → k < length g.edges → IsBackEdge g k (slice_index backs k)
  pub each_loop : (v : ℕ) → v < g.nodes → IsLoopAt g v (slice_index loops v)
  pub each_rises : (k : ℕ) → k < length g.edges → LeadsUp g numbers k

-- the graph has a certificate, and the lists show it
pub record ShowsRateable (g : Graph) (backs loops numbers : List ℕ) : Type 0 where
  pub rateable : IsRateable g
  pub signs : AreSigns g backs loops numbers
