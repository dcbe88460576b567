-- Marked graphs: edges by number, walks, and which transitions a walk joins.
use Rattle.std.specs.Prelude.{◌≡◌, ℕ, ◌+◌, ◌<◌, ◌≤◌, List, [], ◌∷◌, length, slice_index_or}
use Rattle.lid_graph.specs.declared.graph.Edge.{Edge}
use Rattle.lid_graph.specs.declared.graph.Graph.{Graph}

-- what stands past the last edge
abbrev pub no_edge : Edge
no_edge = record { from = 0; to = 0; tokens = 0 }

-- the edge with this number
abbrev pub edge_at : Graph → ℕ → Edge
edge_at g k = slice_index_or g.edges k no_edge

-- there is an edge with these ends
abbrev pub HasEdge : Graph → ℕ → ℕ → Type 0
HasEdge g u v = (k : ℕ) × (k < length g.edges) × ((edge_at g k).from ≡ u) × ((edge_at g k).to ≡ v)

-- there is an edge from the transition to itself with one token
abbrev pub HasSelfEdge : Graph → ℕ → Type 0
HasSelfEdge g v =
    (k : ℕ) × (k < length g.edges) × ((edge_at g k).from ≡ v) × ((edge_at g k).to ≡ v) × ((edge_at g k).tokens ≡ 1)

-- both ends of an edge lie below the number of transitions, and there is an edge back
pub record AreEndsPaired (g : Graph) (k : ℕ) : Type 0 where
  pub from : (edge_at g k).from < g.nodes
  pub to : (edge_at g k).to < g.nodes
  pub back : HasEdge g (edge_at g k).to (edge_at g k).from

-- all ends of edges lie below the number of transitions, each transition has a self edge with one
-- token, and each edge has one back
pub record IsPaired (g : Graph) : Type 0 where
  pub ends : (k : ℕ) → k < length g.edges → AreEndsPaired g k
  pub self : (v : ℕ) → v < g.nodes → HasSelfEdge g v

-- the edges with these numbers lead from u to v, each beginning where the one before ends
abbrev pub IsWalk : Graph → ℕ → List ℕ → ℕ → Type 0
IsWalk g u [] v = u ≡ v
IsWalk g u (k ∷ ks) v = (k < length g.edges) × ((edge_at g k).from ≡ u) × IsWalk g (edge_at g k).to ks v

-- where the first edge begins
abbrev pub walk_start : Graph → List ℕ → ℕ
walk_start g [] = 0
walk_start g (k ∷ ks) = (edge_at g k).from

-- a walk with an edge that ends where it begins
pub record IsClosedWalk (g : Graph) (ks : List ℕ) : Type 0 where
  pub some : 0 < length ks
  pub closed : IsWalk g (walk_start g ks) ks (walk_start g ks)

-- the tokens on the edges with these numbers
abbrev pub walk_tokens : Graph → List ℕ → ℕ
walk_tokens g [] = 0
walk_tokens g (k ∷ ks) = (edge_at g k).tokens + walk_tokens g ks

-- each closed walk has a token
abbrev pub WalksHaveTokens : Graph → Type 0
WalksHaveTokens g = (ks : List ℕ) → IsClosedWalk g ks → 0 < walk_tokens g ks

-- some walk leads from u to v
abbrev pub IsJoined : Graph → ℕ → ℕ → Type 0
IsJoined g u v = (ks : List ℕ) × IsWalk g u ks v

-- of the transitions that a walk joins to v, the least is u
pub record IsLeastJoined (g : Graph) (v u : ℕ) : Type 0 where
  pub joined : IsJoined g v u
  pub least : (w : ℕ) → IsJoined g v w → u ≤ w
