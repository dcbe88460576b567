-- Marked graphs that differ in the capacities of their stations alone.
use Rattle.std.specs.Prelude.{◌≡◌, ℕ, ◌*◌, ◌<◌, ◌≤◌, List, length}
use Rattle.lid_graph.specs.declared.graph.Graph.{Graph}
use Rattle.lid_graph.specs.Walks.{edge_at, walk_tokens}
use Rattle.lid_graph.specs.Ratios.{IsClosedWalkNear}
use Rattle.lid_size_laws.specs.Capacities.{IsForward}

-- no closed walk of the component of v has a ratio below p/q
abbrev pub KeepsRatio : Graph → ℕ → ℕ → ℕ → Type 0
KeepsRatio g v p q = (ks : List ℕ) → IsClosedWalkNear g v ks → p * length ks ≤ q * walk_tokens g ks

-- the two graphs have the same edges, but for their tokens
pub record AreAlike (g h : Graph) : Type 0 where
  pub nodes : g.nodes ≡ h.nodes
  pub count : length g.edges ≡ length h.edges
  pub from : (k : ℕ) → k < length g.edges → (edge_at g k).from ≡ (edge_at h k).from
  pub to : (k : ℕ) → k < length g.edges → (edge_at g k).to ≡ (edge_at h k).to

-- no edge has more tokens in g than in h
pub record HasNoMore (g h : Graph) : Type 0 where
  pub alike : AreAlike g h
  pub tokens : (k : ℕ) → k < length g.edges → (edge_at g k).tokens ≤ (edge_at h k).tokens

-- forward edges have as many tokens in both graphs: they differ in the capacities of n stations alone
pub record DifferInCapacities (n : ℕ) (g h : Graph) : Type 0 where
  pub alike : AreAlike g h
  pub forward : (k : ℕ) → k < length g.edges → IsForward n k → (edge_at g k).tokens ≡ (edge_at h k).tokens
