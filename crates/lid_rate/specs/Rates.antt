-- Graphs whose components have certificates, and what the search answers.
use Rattle.std.specs.Prelude.{◌≡◌, ℕ, zero, suc, ◌<◌, ◌≤◌, ◌==◌, nat_lt, ◌&&◌, true, Bool, if◌then◌else◌, List, [], ◌∷◌, ◌++◌, length, map, slice_index}
use Rattle.std.specs.List.{All, count_by, sum_by}
use Rattle.lid_graph.specs.declared.graph.Edge.{Edge}
use Rattle.lid_graph.specs.declared.graph.Graph.{Graph}
use Rattle.lid_graph.specs.Walks.{edge_at, IsLeastJoined}
use Rattle.lid_graph.specs.Ratios.{IsLag}
use Rattle.lid_cert.specs.declared.cert.Part.{Part}
use Rattle.lid_cert.specs.declared.cert.Cert.{Cert}
use Rattle.lid_cert.specs.Certificates.{has_node, lag_of, least_node, IsPart, IsPartInRange}
use Rattle.lid_rate_ratio.specs.Once.{MeetsOnce}

-- a filter of the numbers below n: those that pass a test, in order
abbrev pub numbers_where : (ℕ → Bool) → ℕ → List ℕ
numbers_where p zero = []
numbers_where p (suc n) = if p n then numbers_where p n ++ n ∷ [] else numbers_where p n

-- for each transition the least that is joined to it
pub record AreLabels (g : Graph) (least : List ℕ) : Type 0 where
  pub count : length least ≡ g.nodes
  pub labels : (v : ℕ) → v < g.nodes → IsLeastJoined g v (slice_index least v)

-- whether a transition has this label
abbrev pub is_labelled : List ℕ → ℕ → ℕ → Bool
is_labelled least r v = slice_index least v == r

-- the edges that begin at a transition with this label
abbrev pub edges_of : Graph → List ℕ → ℕ → List ℕ
edges_of g least r = numbers_where (λ k. is_labelled least r (edge_at g k).from) (length g.edges)

-- the part of a label
pub record IsPartOf (g : Graph) (least : List ℕ) (r : ℕ) (part : Part) : Type 0 where
  pub nodes_are : part.nodes ≡ numbers_where (is_labelled least r) (length least)
  pub meets : IsPart g part
  pub once : MeetsOnce g part.cycle
  pub short : length part.cycle ≤ length part.nodes
  pub in_range : IsPartInRange part
  pub lags : (v : ℕ) → has_node part v ≡ true → IsLag g part.p part.q v (lag_of part v)

-- an edge from a transition to itself, with one token
pub record IsLoopAt (g : Graph) (v k : ℕ) : Type 0 where
  pub within : k < length g.edges
  pub from : (edge_at g k).from ≡ v
  pub to : (edge_at g k).to ≡ v
  pub token : (edge_at g k).tokens ≡ 1

abbrev pub is_loop_edge : Edge → ℕ → Bool
is_loop_edge e v = (e.from == v) && ((e.to == v) && (e.tokens == 1))

-- whether a transition is the least of its component
abbrev pub is_own : List ℕ → ℕ → Bool
is_own least v = slice_index least v == v

-- in each part the closed walk has no more edges than there are transitions, and all parts together have no
-- more transitions than the graph
pub record IsShort (g : Graph) (cert : Cert) : Type 0 where
  pub walks : All (λ part. length part.cycle ≤ length part.nodes) cert.parts
  pub nodes : sum_by (λ part. length part.nodes) cert.parts ≤ g.nodes

-- the parts of the labels below n
pub record AreParts (g : Graph) (least : List ℕ) (n : ℕ) (parts : List Part) : Type 0 where
  pub heads : map least_node parts ≡ numbers_where (is_own least) n
  pub each : All (λ part. IsPartOf g least (least_node part) part) parts
  pub counted : (w : ℕ) → w < g.nodes → slice_index least w < n → count_by (λ part. has_node part w) parts ≡ 1
  pub sized : sum_by (λ part. length part.nodes) parts ≤ count_by (λ l. nat_lt l n) least
  pub uncounted : (w : ℕ) → w < g.nodes → n ≤ slice_index least w → count_by (λ part. has_node part w) parts ≡ 0
