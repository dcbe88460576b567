-- Graphs whose components have ratios that are found and told.
use Rattle.std.specs.Prelude.{ℕ, ◌^◌, ◌<◌, ◌≤◌, length}
use Rattle.lid_graph.specs.declared.graph.Graph.{Graph}
use Rattle.lid_graph.specs.Walks.{edge_at, IsPaired}

-- a paired graph of at most 2^18 transitions and fewer than 2^19 edges, with at most 16 tokens on an
-- edge
pub record IsRateable (g : Graph) : Type 0 where
  pub paired : IsPaired g
  pub some : 1 ≤ g.nodes
  pub nodes : g.nodes ≤ 2 ^ 18
  pub edges : length g.edges < 2 ^ 19
  pub tokens : (k : ℕ) → k < length g.edges → (edge_at g k).tokens ≤ 16
