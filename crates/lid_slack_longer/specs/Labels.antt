-- Labels of transitions that show that a ratio is kept with further relay stations after a station, and ways that
-- show that it is not. Both are read off the present marked graph.
use Rattle.std.specs.Prelude.{◌≡◌, ◌≢◌, ℕ, ◌+◌, ◌*◌, ◌<◌, ◌≤◌, Bool, true, List, length, slice_index_or, Option, None, is_some}
use Rattle.std.specs.List.{All}
use Rattle.std.specs.Option.{option_map_or}
use Rattle.lid_graph.specs.declared.graph.Edge.{Edge}
use Rattle.lid_graph.specs.declared.graph.Graph.{Graph}
use Rattle.lid_graph.specs.Walks.{edge_at, IsWalk}

-- the label of a transition, if it has one
abbrev pub label_at : List (Option ℕ) → ℕ → Option ℕ
label_at labels v = slice_index_or labels v None

-- whether a transition has a label
abbrev pub has_label : List (Option ℕ) → ℕ → Bool
has_label labels v = is_some (label_at labels v)

-- its label, or 0 where it has none
abbrev pub label_of : List (Option ℕ) → ℕ → ℕ
label_of labels v = option_map_or (λ n. n) (label_at labels v) 0

-- labels allow for so many edges with so many tokens from u to v at the ratio a/b
abbrev pub Allows : List (Option ℕ) → ℕ → ℕ → ℕ → ℕ → ℕ → ℕ → Type 0
Allows labels a b u v edges tokens = label_of labels u + a * edges ≤ label_of labels v + b * tokens

-- an edge begins at a labelled transition exactly where it ends at one, and there the labels allow for it
pub record IsEdgeAllowed (labels : List (Option ℕ)) (a b : ℕ) (e : Edge) : Type 0 where
  pub stays : has_label labels e.from ≡ has_label labels e.to
  pub allows : has_label labels e.to ≡ true → Allows labels a b e.from e.to 1 e.tokens

-- the edge along a station, and the edge back
abbrev pub edge_along : Graph → ℕ → Edge
edge_along g station = edge_at g (2 * station)

abbrev pub edge_back : Graph → ℕ → Edge
edge_back g station = edge_at g (2 * station + 1)

-- an edge is none of the two of a station
abbrev pub IsElsewhere : ℕ → ℕ → Type 0
IsElsewhere station k = (k ≢ 2 * station) × (k ≢ 2 * station + 1)

-- labels allow for a station and x relay stations of capacity 2 in a row after it, along all of them and back
pub record IsChainAllowed (g : Graph) (station x a b : ℕ) (labels : List (Option ℕ)) : Type 0 where
  pub filled : has_label labels (edge_along g station).from ≡ true
  pub drained : has_label labels (edge_along g station).to ≡ true
  pub along : Allows labels a b (edge_along g station).from (edge_along g station).to (x + 1) (edge_along g station).tokens
  pub backward : Allows labels a b (edge_along g station).to (edge_along g station).from (x + 1) ((edge_back g station).tokens + 2 * x)

-- at a ratio a/b of at most 1 labels, of which `start` has one, allow for a station with x further relay stations, and
-- for all edges but the two of the station
pub record AreKeepingLabels (g : Graph) (station start x a b : ℕ) (labels : List (Option ℕ)) : Type 0 where
  pub at_most_one : a ≤ b
  pub begins : has_label labels start ≡ true
  pub chain : IsChainAllowed g station x a b labels
  pub others : (k : ℕ) → k < length g.edges → IsElsewhere station k → IsEdgeAllowed labels a b (edge_at g k)

-- a way leads from where a station is drained to where it is filled, by other edges than its own
pub record IsWay (g : Graph) (station : ℕ) (way : List ℕ) : Type 0 where
  pub leads : IsWalk g (edge_along g station).to way (edge_along g station).from
  pub elsewhere : All (IsElsewhere station) way
