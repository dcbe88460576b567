-- For the loops: potentials of transitions, and edges that are relaxed: each raises the potential at its
-- end to that at its beginning plus p less q for each token.
use Rattle.std.specs.Prelude.{◌≡◌, ℕ, ◌+◌, ◌-◌, ◌*◌, ◌<◌, ◌≤◌, List, length, slice_index, slice_set, Option, Some, None}
use Rattle.std.specs.List.{Contains}
use Rattle.lid_graph.specs.declared.graph.Edge.{Edge}
use Rattle.lid_graph.specs.declared.graph.Graph.{Graph}
use Rattle.lid_graph.specs.Walks.{edge_at, walk_tokens}
use Rattle.lid_rate_ratio.specs.WalksBack.{IsWalkBack, IsPredecessorWalk, predecessor_of}

-- the edge is relaxed: the potential at its end is raised, and it becomes the edge from the predecessor
pub record Relaxes (e : Edge) (k p q : ℕ) (values : List ℕ) (last : List (Option ℕ)) (new_values : List ℕ) (new_last : List (Option ℕ)) : Type 0 where
  pub more : slice_index values e.to + q * e.tokens < slice_index values e.from + p
  pub raised : new_values ≡ slice_set values e.to (slice_index values e.from + p - q * e.tokens)
  pub stands : new_last ≡ slice_set last e.to (Some k)

-- the potential at the end of the edge is as large as it asks, and nothing changes
pub record StaysRelaxed (e : Edge) (p q : ℕ) (values : List ℕ) (last : List (Option ℕ)) (new_values : List ℕ) (new_last : List (Option ℕ)) : Type 0 where
  pub met : slice_index values e.from + p ≤ slice_index values e.to + q * e.tokens
  pub same_values : new_values ≡ values
  pub same_predecessors : new_last ≡ last

-- each edge of the list is one of the graph, with ends below the number of transitions and few tokens
pub record AreEdges (g : Graph) (es : List ℕ) : Type 0 where
  pub within : (i : ℕ) → i < length es → slice_index es i < length g.edges
  pub from : (k : ℕ) → k < length g.edges → (edge_at g k).from < g.nodes
  pub to : (k : ℕ) → k < length g.edges → (edge_at g k).to < g.nodes
  pub tokens : (k : ℕ) → k < length g.edges → (edge_at g k).tokens ≤ 16

-- the edge from the predecessor of v: one of the list that ends at v and asks there for no less than the
-- potential
pub record IsPredecessorEdge (g : Graph) (es : List ℕ) (p q : ℕ) (values : List ℕ) (v k : ℕ) : Type 0 where
  pub listed : Contains es k
  pub ends : (edge_at g k).to ≡ v
  pub slack : slice_index values v + q * (edge_at g k).tokens ≤ slice_index values (edge_at g k).from + p

-- a walk back from v asks for all of its potential
abbrev pub IsAttained : Graph → List ℕ → ℕ → ℕ → List ℕ → ℕ → Type 0
IsAttained g es p q values v =
    (u : ℕ) × (ks : List ℕ) × IsWalkBack g es v ks u × (p * length ks ≡ slice_index values v + q * walk_tokens g ks)

-- what holds of potentials and predecessors after any number of relaxations from 0: where edges from
-- predecessors close, their ratio is lower; a transition without a predecessor has potential 0; and each
-- potential is asked for by a walk
pub record ArePotentials (g : Graph) (es : List ℕ) (p q : ℕ) (values : List ℕ) (last : List (Option ℕ)) : Type 0 where
  pub value_count : length values ≡ g.nodes
  pub predecessor_count : length last ≡ g.nodes
  pub edges : (v k : ℕ) → predecessor_of last v ≡ Some k → IsPredecessorEdge g es p q values v k
  pub rising : (v : ℕ) (ks : List ℕ) → IsPredecessorWalk g last v ks v → 0 < length ks → q * walk_tokens g ks < p * length ks
  pub fresh : (v : ℕ) → predecessor_of last v ≡ None → slice_index values v ≡ 0
  pub attained : (v : ℕ) → v < g.nodes → IsAttained g es p q values v

-- no potential is above this
abbrev pub AreAtMost : List ℕ → ℕ → Type 0
AreAtMost values most = (v : ℕ) → slice_index values v ≤ most

-- the edge does not ask for more at its end than the new potential, by the old one at its beginning
abbrev pub IsMet : Graph → ℕ → ℕ → List ℕ → List ℕ → ℕ → Type 0
IsMet g p q values new_values k =
    slice_index values (edge_at g k).from + p ≤ slice_index new_values (edge_at g k).to + q * (edge_at g k).tokens

-- the first n edges of the list have been relaxed
pub record IsRound (g : Graph) (es : List ℕ) (p q n : ℕ) (values new_values : List ℕ) : Type 0 where
  pub grown : (v : ℕ) → slice_index values v ≤ slice_index new_values v
  pub met : (i : ℕ) → i < n → IsMet g p q values new_values (slice_index es i)
  pub bounded : (most : ℕ) → AreAtMost values most → AreAtMost new_values (most + p * n)

-- the potential of this transition has grown, or nothing has changed
abbrev pub IsRelaxed : Graph → List ℕ → List ℕ → Option ℕ → Type 0
IsRelaxed g values new_values None = new_values ≡ values
IsRelaxed g values new_values (Some v) = (v < g.nodes) × (slice_index values v < slice_index new_values v)

-- no walk of at most n edges asks for more than the potential where it ends
abbrev pub ReachesWalks : Graph → List ℕ → ℕ → ℕ → ℕ → List ℕ → Type 0
ReachesWalks g es p q n values =
    (v u : ℕ) (ks : List ℕ) → IsWalkBack g es v ks u → length ks ≤ n → p * length ks ≤ slice_index values v + q * walk_tokens g ks
