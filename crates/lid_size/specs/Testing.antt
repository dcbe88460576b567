-- For the test of a guess: walks by which stations with one place less do not reach. What a guess tells of one
-- station serves for later ones too.
use Rattle.std.specs.Prelude.{◌≡◌, ℕ, ◌-◌, ◌*◌, ◌^◌, ◌<◌, ◌≤◌, List, ◌++◌, length, take, replicate, slice_index, slice_index_or}
use Rattle.std.specs.List.{All}
use Rattle.lid_graph.specs.declared.graph.Graph.{Graph}
use Rattle.lid_graph.specs.Walks.{IsWalk, walk_tokens}
use Rattle.lid_rate_ratio.specs.declared.lowest_terms.Ratio.{Ratio}
use Rattle.lid_system.specs.declared.System.{System}
use Rattle.lid_stations.specs.Placements.{links_of, station_count, IsCapacity}
use Rattle.lid_size_forward.specs.ForwardParts.{AreForwardRatios}
use Rattle.lid_size.specs.declared.ways.Way.{Way}
use Rattle.lid_size.specs.Choices.{followed}
use Rattle.lid_size.specs.Sizing.{sized, greatest, Reaches}

-- a graph is the marking of a system with n stations and 16 everywhere
pub record IsWidest (g : Graph) (n : ℕ) (s : System) (relays : List ℕ) : Type 0 where
  pub is : g ≡ sized (links_of s) relays (greatest relays)
  pub count : station_count relays ≡ n

-- some capacities of n, then 16 for all later stations
abbrev pub widened : ℕ → List ℕ → List ℕ
widened n done = done ++ replicate (n - length done) 16

-- stations with these capacities do not reach
abbrev pub IsRefuted : Graph → ℕ → List Ratio → List ℕ → Type 0
IsRefuted g n wants caps =
    (s : System) (relays : List ℕ)
    → IsWidest g n s relays
    → AreForwardRatios g n wants
    → Reaches (links_of s) relays caps
    → ⊥

-- a walk leads to v with so many edges, and with no more tokens where stations have these capacities
pub record IsWayTo (g : Graph) (n : ℕ) (caps : List ℕ) (v : ℕ) (way : Way) : Type 0 where
  pub walk : List ℕ
  pub leads : IsWalk g way.from walk v
  pub start : way.from < g.nodes
  pub edges : length walk ≡ way.edges
  pub tokens : (s : System) (relays : List ℕ) → IsWidest g n s relays → walk_tokens (sized (links_of s) relays caps) walk ≤ way.tokens
  pub few : way.tokens ≤ 16 * way.edges
  pub short : way.edges ≤ 2 ^ 18

-- from each transition to itself, without an edge
abbrev pub empty_way : ℕ → Way
empty_way v = record { from = v; edges = 0; tokens = 0 }

-- to each transition such a walk
pub record AreWays (g : Graph) (n : ℕ) (caps : List ℕ) (ways : List Way) : Type 0 where
  pub count : length ways ≡ g.nodes
  pub each : (v : ℕ) → v < length ways → IsWayTo g n caps v (slice_index_or ways v (empty_way 0))

-- after some capacities this one is in its range, and one less does not reach with 16 for all later stations
pub record IsTightNext (g : Graph) (n : ℕ) (wants : List Ratio) (done : List ℕ) (c : ℕ) : Type 0 where
  pub range : IsCapacity c
  pub tight : 2 < c → IsRefuted g n wants (followed n done (c - 1))

-- so is each of some capacities, after those before it
pub record AreTight (g : Graph) (n : ℕ) (wants : List Ratio) (done : List ℕ) : Type 0 where
  pub range : All IsCapacity done
  pub tight : (station : ℕ) → station < length done → 2 < slice_index done station → IsRefuted g n wants (followed n (take station done) (slice_index done station - 1))
