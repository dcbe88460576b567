-- For the loops: a spanning tree of edges from a start, with leads, depths and via edges.
use Rattle.std.specs.Prelude.{◌≡◌, ℕ, ◌+◌, ◌*◌, ◌<◌, ◌≤◌, ◌==◌, Bool, true, false, ◌||◌, List, length, slice_index, slice_set, Option, Some, None, is_some}
use Rattle.std.specs.List.{Contains, sum_by}
use Rattle.lid_graph.specs.declared.graph.Edge.{Edge}
use Rattle.lid_graph.specs.declared.graph.Graph.{Graph}
use Rattle.lid_graph.specs.Walks.{edge_at}
use Rattle.lid_rate_ratio.specs.WalksBack.{predecessor_of}

-- the start, and what an edge of the tree leads to
abbrev pub is_reached : ℕ → List (Option ℕ) → ℕ → Bool
is_reached start via v = (v == start) || is_some (predecessor_of via v)

abbrev pub without_edge : Option ℕ → ℕ
without_edge None = 1
without_edge (Some k) = 0

-- how many transitions no edge of the tree leads to
abbrev pub unreached : List (Option ℕ) → ℕ
unreached via = sum_by without_edge via

-- an edge out of the tree is added
pub record AddsEdge (e : Edge) (k start q : ℕ) (via : List (Option ℕ)) (lead depth : List ℕ) (new_via : List (Option ℕ)) (new_lead new_depth : List ℕ) : Type 0 where
  pub inside : is_reached start via e.from ≡ true
  pub outside : is_reached start via e.to ≡ false
  pub via_is : new_via ≡ slice_set via e.to (Some k)
  pub lead_is : new_lead ≡ slice_set lead e.to (slice_index lead e.from + q * e.tokens)
  pub depth_is : new_depth ≡ slice_set depth e.to (slice_index depth e.from + 1)

-- an edge does not lead out of the tree
pub record AddsNone (e : Edge) (start : ℕ) (via : List (Option ℕ)) (lead depth : List ℕ) (new_via : List (Option ℕ)) (new_lead new_depth : List ℕ) : Type 0 where
  pub closed : is_reached start via e.from ≡ true → is_reached start via e.to ≡ true
  pub via_same : new_via ≡ via
  pub lead_same : new_lead ≡ lead
  pub depth_same : new_depth ≡ depth

-- the lists of a tree have one entry for each transition
pub record AreTreeLists (g : Graph) (via : List (Option ℕ)) (lead depth : List ℕ) : Type 0 where
  pub via_count : length via ≡ g.nodes
  pub lead_count : length lead ≡ g.nodes
  pub depth_count : length depth ≡ g.nodes

-- the start has no edge, the first lead and no depth
pub record IsRoot (start first : ℕ) (via : List (Option ℕ)) (lead depth : List ℕ) : Type 0 where
  pub no_edge : predecessor_of via start ≡ None
  pub first_lead : slice_index lead start ≡ first
  pub no_depth : slice_index depth start ≡ 0

-- an edge of the tree, one of the list: it leads to v from a transition of the tree that is less deep, and
-- the lead of v is as large as it asks
pub record IsTreeEdge (g : Graph) (es : List ℕ) (start q : ℕ) (via : List (Option ℕ)) (lead depth : List ℕ) (v k : ℕ) : Type 0 where
  pub listed : Contains es k
  pub ends : (edge_at g k).to ≡ v
  pub begins : is_reached start via (edge_at g k).from ≡ true
  pub deeper : slice_index depth (edge_at g k).from < slice_index depth v
  pub leads : slice_index lead (edge_at g k).from + q * (edge_at g k).tokens ≤ slice_index lead v

-- a tree of edges from a start. No transition is deeper than there are others in the tree, and no lead is
-- larger than its depth allows
pub record IsTree (g : Graph) (es : List ℕ) (start q first : ℕ) (via : List (Option ℕ)) (lead depth : List ℕ) : Type 0 where
  pub lists : AreTreeLists g via lead depth
  pub root : IsRoot start first via lead depth
  pub edges : (v k : ℕ) → predecessor_of via v ≡ Some k → IsTreeEdge g es start q via lead depth v k
  pub shallow : (v : ℕ) → slice_index depth v + unreached via ≤ g.nodes
  pub small : (v : ℕ) → slice_index lead v ≤ first + 16 * q * slice_index depth v

-- of the first n edges of the list none leads out of the tree
abbrev pub IsSpanning : Graph → List ℕ → ℕ → ℕ → List (Option ℕ) → Type 0
IsSpanning g es start n via =
    (i : ℕ)
    → i < n
    → is_reached start via (edge_at g (slice_index es i)).from ≡ true
    → is_reached start via (edge_at g (slice_index es i)).to ≡ true

-- a round as far as it has come
pub record IsGrown (g : Graph) (es : List ℕ) (start q first n : ℕ) (old_via : List (Option ℕ)) (via : List (Option ℕ)) (lead depth : List ℕ) (grown : Bool) : Type 0 where
  pub tree : IsTree g es start q first via lead depth
  pub fewer : grown ≡ true → unreached via < unreached old_via
  pub no_more : unreached via ≤ unreached old_via
  pub closed : grown ≡ false → IsSpanning g es start n via
