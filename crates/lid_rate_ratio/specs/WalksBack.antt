-- Walks that are told from their end.
use Rattle.std.specs.Prelude.{◌≡◌, ℕ, ◌<◌, ◌≤◌, List, [], ◌∷◌, length, reverse, slice_index_or, Option, Some, None}
use Rattle.std.specs.List.{Contains}
use Rattle.lid_graph.specs.declared.graph.Graph.{Graph}
use Rattle.lid_graph.specs.Walks.{edge_at}
use Rattle.lid_rate_ratio.specs.Once.{MeetsOnce}

-- edges of the list, each ending where the one before begins, the first at v; the last begins at u
abbrev pub IsWalkBack : Graph → List ℕ → ℕ → List ℕ → ℕ → Type 0
IsWalkBack g es v [] u = v ≡ u
IsWalkBack g es v (k ∷ ks) u = Contains es k × ((edge_at g k).to ≡ v) × IsWalkBack g es (edge_at g k).from ks u

-- the edge from the predecessor of a transition, if it has one
abbrev pub predecessor_of : List (Option ℕ) → ℕ → Option ℕ
predecessor_of predecessors v = slice_index_or predecessors v None

-- a walk of edges from predecessors
abbrev pub IsPredecessorWalk : Graph → List (Option ℕ) → ℕ → List ℕ → ℕ → Type 0
IsPredecessorWalk g predecessors v [] u = v ≡ u
IsPredecessorWalk g predecessors v (k ∷ ks) u = (predecessor_of predecessors v ≡ Some k) × IsPredecessorWalk g predecessors (edge_at g k).from ks u

-- a closed walk that meets no transition twice. It is found from its end, as a chain from a transition
-- back to itself
pub record IsCycleBy (g : Graph) (IsChain : ℕ → List ℕ → ℕ → Type 0) (walk : List ℕ) : Type 0 where
  pub at : ℕ
  pub chain : List ℕ
  pub chained : IsChain at chain at
  pub some : 0 < length chain
  pub short : length chain ≤ g.nodes
  pub once : MeetsOnce g chain
  pub walk_is : walk ≡ reverse chain

-- a closed walk on edges of the list that meets no transition twice
abbrev pub IsCycleOn : Graph → List ℕ → List ℕ → Type 0
IsCycleOn g es = IsCycleBy g (IsWalkBack g es)
