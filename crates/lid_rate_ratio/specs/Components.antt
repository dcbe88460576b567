-- What is found of a graph whose transitions are all joined: its ratio, its lags, and a tree of its edges.
use Rattle.std.specs.Prelude.{◌≡◌, ℕ, ◌+◌, ◌*◌, ◌^◌, ◌<◌, ◌≤◌, ◌≢◌, List, length, slice_index, Option}
use Rattle.std.specs.Option.{MatchOption}
use Rattle.lid_graph.specs.declared.graph.Graph.{Graph}
use Rattle.lid_graph.specs.Walks.{edge_at, walk_tokens, IsWalk, IsClosedWalk, IsJoined}
use Rattle.lid_rate_ratio.specs.WalksBack.{predecessor_of}
use Rattle.lid_rate_ratio.specs.Once.{MeetsOnce}
use Rattle.lid_rate_ratio.specs.Relaxation.{IsMet, AreAtMost}
use Rattle.lid_rate_ratio.specs.CycleRatios.{IsLowest}
use Rattle.lid_rate_ratio.specs.SpanningTrees.{AreTreeLists, IsRoot}

-- at most 2^18 transitions, fewer than 2^19 edges, all ends below the number of transitions, and at most
-- 16 tokens on an edge
pub record IsSmallGraph (g : Graph) : Type 0 where
  pub nodes : g.nodes ≤ 2 ^ 18
  pub edges : length g.edges < 2 ^ 19
  pub from : (k : ℕ) → k < length g.edges → (edge_at g k).from < g.nodes
  pub to : (k : ℕ) → k < length g.edges → (edge_at g k).to < g.nodes
  pub tokens : (k : ℕ) → k < length g.edges → (edge_at g k).tokens ≤ 16

-- an edge from a transition to itself, with one token
pub record IsLoop (g : Graph) (k : ℕ) : Type 0 where
  pub within : k < length g.edges
  pub loops : (edge_at g k).from ≡ (edge_at g k).to
  pub token : (edge_at g k).tokens ≡ 1

-- a walk leads from one transition to each
abbrev pub AreAllJoined : Graph → ℕ → Type 0
AreAllJoined g u = (v : ℕ) → v < g.nodes → IsJoined g u v

-- a closed walk that meets no transition twice, and its tokens by its edges in lowest terms
pub record IsCycle (g : Graph) (p q : ℕ) (walk : List ℕ) : Type 0 where
  pub closed : IsClosedWalk g walk
  pub once : MeetsOnce g walk
  pub short : length walk ≤ g.nodes
  pub lowest : IsLowest (walk_tokens g walk) (length walk) p q
  pub few : p ≤ 16 * length walk

-- some walk that ends at v asks for all of its lag
abbrev pub IsAsked : Graph → ℕ → ℕ → List ℕ → ℕ → Type 0
IsAsked g p q lags v =
    (u : ℕ) × (ks : List ℕ) × IsWalk g u ks v × (p * length ks ≡ slice_index lags v + q * walk_tokens g ks)

-- each lag is as large as every edge asks, and some walk asks for all of it
pub record AreLeastLags (g : Graph) (p q : ℕ) (lags : List ℕ) : Type 0 where
  pub count : length lags ≡ g.nodes
  pub met : (k : ℕ) → k < length g.edges → IsMet g p q lags lags k
  pub asked : (v : ℕ) → v < g.nodes → IsAsked g p q lags v
  pub small : AreAtMost lags (2 ^ 60)

-- p/q is the ratio of the walk, and these are the lags at p/q: so no closed walk has a lower ratio
pub record HasRate (g : Graph) (p q : ℕ) (walk lags : List ℕ) : Type 0 where
  pub cycle : IsCycle g p q walk
  pub are_lags : AreLeastLags g p q lags

-- an edge that leads to v from a transition of less depth, for which the lead of v is large enough
pub record IsBranch (g : Graph) (q : ℕ) (lead depth : List ℕ) (v k : ℕ) : Type 0 where
  pub within : k < length g.edges
  pub ends : (edge_at g k).to ≡ v
  pub deeper : slice_index depth (edge_at g k).from < slice_index depth v
  pub leads : slice_index lead (edge_at g k).from + q * (edge_at g k).tokens ≤ slice_index lead v

-- what is asked of a graph, and of the start of a tree, its lead and what a token adds to leads
pub record CanSpan (g : Graph) (start q first : ℕ) : Type 0 where
  pub graph : IsSmallGraph g
  pub joined : AreAllJoined g start
  pub within : start < g.nodes
  pub small_q : q ≤ 2 ^ 18
  pub low_first : first ≤ 2 ^ 40

-- a tree of edges that comes from the start to each transition
pub record SpansFrom (g : Graph) (start q first : ℕ) (via : List (Option ℕ)) (lead depth : List ℕ) : Type 0 where
  pub lists : AreTreeLists g via lead depth
  pub root : IsRoot start first via lead depth
  pub branches : (v : ℕ) → v < g.nodes → v ≢ start → MatchOption (predecessor_of via v) ⊥ (IsBranch g q lead depth v)
  pub small : AreAtMost lead (2 ^ 61)
