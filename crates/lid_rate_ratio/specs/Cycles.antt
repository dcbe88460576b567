-- For the loops: edges from predecessors, followed back.
use Rattle.std.specs.Prelude.{◌≡◌, ℕ, ◌+◌, ◌-◌, ◌<◌, ◌≤◌, Bool, true, false, List, length, slice_index, Option, Some, None}
use Rattle.std.specs.List.{sum_by}
use Rattle.lid_graph.specs.declared.graph.Graph.{Graph}
use Rattle.lid_graph.specs.Walks.{edge_at}
use Rattle.lid_rate_ratio.specs.declared.cycles.Followed.{Followed}
use Rattle.lid_rate_ratio.specs.declared.cycles.Followed.TheVariants.{Ends, Closes}
use Rattle.lid_rate_ratio.specs.WalksBack.{IsPredecessorWalk, IsCycleBy, predecessor_of}

-- each edge from a predecessor is one of the graph and ends at its transition
pub record ArePredecessors (g : Graph) (last : List (Option ℕ)) : Type 0 where
  pub predecessor_count : length last ≡ g.nodes
  pub within : (v k : ℕ) → predecessor_of last v ≡ Some k → k < length g.edges
  pub ends : (v k : ℕ) → predecessor_of last v ≡ Some k → (edge_at g k).to ≡ v
  pub from : (k : ℕ) → k < length g.edges → (edge_at g k).from < g.nodes

-- how many transitions have no place
abbrev pub unplaced : List ℕ → ℕ
unplaced places = sum_by (λ n. 1 - n) places

-- a chain as far as it has been followed: each transition where one of its edges ends has the place of
-- that edge, from 1, and no other has a place
pub record IsTrace (g : Graph) (last : List (Option ℕ)) (start : ℕ) (chain places : List ℕ) (at : ℕ) : Type 0 where
  pub chained : IsPredecessorWalk g last start chain at
  pub at_within : at < g.nodes
  pub place_count : length places ≡ g.nodes
  pub low : (v : ℕ) → 0 < slice_index places v → slice_index places v ≤ length chain
  pub placed : (v : ℕ) → 0 < slice_index places v → (edge_at g (slice_index chain (slice_index places v - 1))).to ≡ v
  pub back : (i : ℕ) → i < length chain → slice_index places (edge_at g (slice_index chain i)).to ≡ i + 1
  pub counted : unplaced places + length chain ≡ g.nodes

-- one edge more, or none where no edge stands for the transition
abbrev pub StepsBack : Graph → List (Option ℕ) → ℕ → Bool → List ℕ → ℕ → List ℕ → List ℕ → ℕ → Type 0
StepsBack g last start true chain at new_chain new_places new_at = IsTrace g last start new_chain new_places new_at × (length new_chain ≡ length chain + 1)
StepsBack g last start false chain at new_chain new_places new_at = (predecessor_of last at ≡ None) × (new_chain ≡ chain) × (new_at ≡ at)

-- a chain that leads to a transition without an edge, or the edges of a closed one in the order of a
-- walk
pub record LeadsOut (g : Graph) (last : List (Option ℕ)) (start n : ℕ) : Type 0 where
  pub out : ℕ
  pub chain : List ℕ
  pub chained : IsPredecessorWalk g last start chain out
  pub none : predecessor_of last out ≡ None
  pub long : length chain ≡ n
  pub short : n < g.nodes

abbrev pub ClosesUp : Graph → List (Option ℕ) → List ℕ → Type 0
ClosesUp g last = IsCycleBy g (IsPredecessorWalk g last)

abbrev pub Follows : Graph → List (Option ℕ) → ℕ → Followed → Type 0
Follows g last start (Ends n) = LeadsOut g last start n
Follows g last start (Closes walk) = ClosesUp g last walk
