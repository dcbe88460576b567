-- Laws of capacities that reach.
use Rattle.std.specs.Prelude.{ℕ, ◌-◌, ◌<◌, ◌≤◌, List, length, slice_index, slice_index_or, slice_set}
use Rattle.lid_system.specs.declared.System.{System}
use Rattle.lid_stations.specs.Placements.{links_of, station_count}
use Rattle.lid_size.specs.Sizing.{Reaches, IsFirst}

-- where some capacities reach, greater ones do
abbrev pub GreaterCapacitiesReach : Type 0
GreaterCapacitiesReach =
    (s : System) (relays caps greater : List ℕ)
    → ((station : ℕ) → slice_index_or caps station 2 ≤ slice_index_or greater station 2)
    → Reaches (links_of s) relays caps
    → Reaches (links_of s) relays greater

-- one place less at any one station of the first capacities that reach does not reach
abbrev pub NoPlaceIsSpare : Type 0
NoPlaceIsSpare =
    (s : System) (relays caps : List ℕ) (station : ℕ)
    → IsFirst (Reaches (links_of s) relays) (station_count relays) caps
    → station < length caps
    → 2 < slice_index caps station
    → Reaches (links_of s) relays (slice_set caps station (slice_index caps station - 1))
    → ⊥
