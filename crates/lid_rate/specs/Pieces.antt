-- Pieces: some transitions and edges of a graph, numbered from 0 each.
use Rattle.std.specs.Prelude.{◌≡◌, ℕ, ◌+◌, ◌-◌, ◌*◌, ◌<◌, ◌≤◌, List, length, map, slice_index, Option, option_map}
use Rattle.std.specs.List.{Contains}
use Rattle.lid_graph.specs.declared.graph.Edge.{Edge}
use Rattle.lid_graph.specs.declared.graph.Graph.{Graph}
use Rattle.lid_graph.specs.Walks.{edge_at, walk_start}
use Rattle.lid_cert.specs.declared.cert.Part.{Part}
use Rattle.lid_rate_ratio.specs.Components.{HasRate, SpansFrom}

-- an edge of the graph whose ends stand in a list
pub record IsInnerEdge (g : Graph) (nodes : List ℕ) (k : ℕ) : Type 0 where
  pub within : k < length g.edges
  pub from : Contains nodes (edge_at g k).from
  pub to : Contains nodes (edge_at g k).to

-- an edge between the places where the ends of edge k stand, with as many tokens
pub record IsImage (g : Graph) (nodes : List ℕ) (k : ℕ) (e : Edge) : Type 0 where
  pub from_within : e.from < length nodes
  pub from : slice_index nodes e.from ≡ (edge_at g k).from
  pub to_within : e.to < length nodes
  pub to : slice_index nodes e.to ≡ (edge_at g k).to
  pub tokens : e.tokens ≡ (edge_at g k).tokens

-- the graph of these transitions and these edges
pub record IsPiece (g : Graph) (nodes edges : List ℕ) (piece : Graph) : Type 0 where
  pub node_count : piece.nodes ≡ length nodes
  pub edge_count : length piece.edges ≡ length edges
  pub images : (i : ℕ) → i < length edges → IsImage g nodes (slice_index edges i) (edge_at piece i)

-- what is found of a piece: its rate, and a tree from where the closed walk starts, with a lead there of
-- at least (q - p)*(L - 1) for a walk of L edges
pub record IsFoundOfPiece (piece : Graph) (p q : ℕ) (walk lags : List ℕ) (via : List (Option ℕ)) (lead depth : List ℕ) : Type 0 where
  pub rate : HasRate piece p q walk lags
  pub first : ℕ
  pub enough : q * (length walk - 1) ≤ first + p * (length walk - 1)
  pub tree : SpansFrom piece (walk_start piece walk) q first via lead depth

-- the part that says of the graph what was found of its piece
pub record IsLifted (nodes edges : List ℕ) (p q : ℕ) (walk lags : List ℕ) (via : List (Option ℕ)) (lead depth : List ℕ) (part : Part) : Type 0 where
  pub nodes_are : part.nodes ≡ nodes
  pub p_is : part.p ≡ p
  pub q_is : part.q ≡ q
  pub cycle_is : part.cycle ≡ map (λ k. slice_index edges k) walk
  pub lag_is : part.lag ≡ lags
  pub lead_is : part.lead ≡ lead
  pub via_is : part.via ≡ map (λ o. option_map (λ k. slice_index edges k) o) via
  pub depth_is : part.depth ≡ depth
