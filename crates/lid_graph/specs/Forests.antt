-- For the loops: the forests of union-find. Each transition has a parent, which is no greater, and roots
-- are their own parents.
use Rattle.std.specs.Prelude.{◌≡◌, ℕ, ◌<◌, ◌≤◌, ◌==◌, min, max, if◌then◌else◌, List, length, slice_index}
use Rattle.lid_graph.specs.declared.graph.Graph.{Graph}
use Rattle.lid_graph.specs.Walks.{edge_at, IsJoined}

abbrev pub IsForest : List ℕ → Type 0
IsForest parents = (v : ℕ) → v < length parents → slice_index parents v ≤ v

-- each transition has the label of its parent, and roots are their own labels: so the label of each is
-- its root
pub record IsLabelled (parents : List ℕ) (label : ℕ → ℕ) : Type 0 where
  pub parent : (v : ℕ) → v < length parents → label (slice_index parents v) ≡ label v
  pub root : (v : ℕ) → v < length parents → slice_index parents v ≡ v → label v ≡ v

abbrev pub relabel : ℕ → ℕ → ℕ → ℕ
relabel high low x = if x == high then low else x

-- the labels once the trees of u and v are one, with the lesser root
abbrev pub merged : (ℕ → ℕ) → ℕ → ℕ → ℕ → ℕ
merged label u v w = relabel (max (label u) (label v)) (min (label u) (label v)) (label w)

-- the labels are joined to their transitions, and the ends of the first `count` edges have one label
pub record IsLinked (g : Graph) (count : ℕ) (parents : List ℕ) (label : ℕ → ℕ) : Type 0 where
  pub labelled : IsLabelled parents label
  pub joined : (v : ℕ) → v < g.nodes → IsJoined g v (label v)
  pub same : (k : ℕ) → k < count → label (edge_at g k).from ≡ label (edge_at g k).to

-- some labels are those of the graph's components
pub record IsComplete (g : Graph) (parents : List ℕ) : Type 0 where
  pub long : length parents ≡ g.nodes
  pub forest : IsForest parents
  pub linked : (label : ℕ → ℕ) × IsLinked g (length g.edges) parents label
