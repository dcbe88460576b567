-- For the search of forward ratios: the edges forth of one component, and its self edges.
use Rattle.std.specs.Prelude.{◌≡◌, ℕ, ◌+◌, ◌*◌, ◌^◌, ◌<◌, ◌≤◌, List, ◌++◌, length, map, slice_index_or}
use Rattle.lid_graph.specs.declared.graph.Edge.{Edge}
use Rattle.lid_graph.specs.declared.graph.Graph.{Graph}
use Rattle.lid_graph.specs.Walks.{edge_at}
use Rattle.lid_graph.specs.Rateable.{IsRateable}
use Rattle.lid_rate_ratio.specs.declared.lowest_terms.Ratio.{Ratio}
use Rattle.lid_stations.specs.Markings.{self_edge}
use Rattle.lid_rate.specs.Rates.{numbers_where, is_labelled}
use Rattle.lid_size_laws.specs.Capacities.{IsForwardRatio}

-- the edges of n stations come first, and then one from each transition to itself
pub record HasStations (g : Graph) (n : ℕ) : Type 0 where
  pub rateable : IsRateable g
  pub count : length g.edges ≡ 2 * n + g.nodes
  pub selves : (v : ℕ) → v < g.nodes → edge_at g (2 * n + v) ≡ self_edge v

-- the self edges of the transitions with this label
abbrev pub selves_of : List ℕ → ℕ → List Edge
selves_of least r = map self_edge (numbers_where (is_labelled least r) (length least))

-- the edges forth that begin at such a transition
abbrev pub forths_of : Graph → ℕ → List ℕ → ℕ → List Edge
forths_of g n least r =
    map (λ s. edge_at g (2 * s)) (numbers_where (λ s. is_labelled least r (edge_at g (2 * s)).from) n)

abbrev pub forward_part : Graph → ℕ → List ℕ → ℕ → Graph
forward_part g n least r = record { nodes = g.nodes; edges = selves_of least r ++ forths_of g n least r }

abbrev pub no_ratio : Ratio
no_ratio = record { p = 0; q = 0 }

-- the forward ratios of the components of the first transitions
pub record AreRatiosBelow (g : Graph) (n most : ℕ) (wants : List Ratio) : Type 0 where
  pub count : length wants ≡ most
  pub each : (v : ℕ) → v < most → IsForwardRatio g n v (slice_index_or wants v no_ratio).p (slice_index_or wants v no_ratio).q
  pub small_p : (v : ℕ) → v < most → (slice_index_or wants v no_ratio).p ≤ 2 ^ 22
  pub small_q : (v : ℕ) → v < most → (slice_index_or wants v no_ratio).q ≤ 2 ^ 18

-- the forward ratio of the component of each transition
abbrev pub AreForwardRatios : Graph → ℕ → List Ratio → Type 0
AreForwardRatios g n wants = AreRatiosBelow g n g.nodes wants
