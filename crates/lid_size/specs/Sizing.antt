-- Which capacities of a placement's stations let each component of its marking have its forward ratio, and
-- which of these come first.
use Rattle.std.specs.Prelude.{◌≡◌, ℕ, ◌<◌, ◌⊎◌, List, [], ◌∷◌, length, replicate}
use Rattle.std.specs.List.{All}
use Rattle.lid_graph.specs.declared.graph.Graph.{Graph}
use Rattle.lid_stations.specs.declared.placement.Placement.{Placement}
use Rattle.lid_stations.specs.Placements.{Links, station_count, IsCapacity}
use Rattle.lid_stations.specs.Markings.{marking}
use Rattle.lid_size_laws.specs.Capacities.{HasForwardRatio}

-- so many relay stations on each channel, and these capacities
abbrev pub with_capacities : List ℕ → List ℕ → Placement
with_capacities relays caps = record { relays = relays; caps = caps }

-- the marking with such stations
abbrev pub sized : Links → List ℕ → List ℕ → Graph
sized l relays caps = marking l (with_capacities relays caps)

-- a capacity from 2 to 16 for each of n stations
pub record AreCapacities (n : ℕ) (caps : List ℕ) : Type 0 where
  pub count : length caps ≡ n
  pub range : All IsCapacity caps

-- each component of the marking has its forward ratio
unfoldable pub Reaches : Links → List ℕ → List ℕ → Type 0
Reaches l relays caps =
    (v : ℕ) → v < (sized l relays caps).nodes → HasForwardRatio (sized l relays caps) (station_count relays) v

-- where they first differ the one before has the lesser number
abbrev pub IsBefore : List ℕ → List ℕ → Type 0
IsBefore [] ys = ⊥
IsBefore (x ∷ xs) [] = ⊥
IsBefore (x ∷ xs) (y ∷ ys) = (x < y) ⊎ ((x ≡ y) × IsBefore xs ys)

-- of all lists of n capacities that have a property, no other comes before this one
pub record IsFirst (P : List ℕ → Type 0) (n : ℕ) (caps : List ℕ) : Type 0 where
  pub are_capacities : AreCapacities n caps
  pub holds : P caps
  pub first : (others : List ℕ) → AreCapacities n others → P others → IsBefore others caps → ⊥

-- 16 for each station
abbrev pub greatest : List ℕ → List ℕ
greatest relays = replicate (station_count relays) 16
