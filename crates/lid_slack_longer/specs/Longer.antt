-- Placements with further relay stations on a channel, and whether its component keeps its ratio.
use Rattle.std.specs.Prelude.{ℕ, ◌+◌, ◌-◌, ◌*◌, ◌≤◌, min, List, ◌++◌, length, take, drop, replicate, slice_index_or, slice_set}
use Rattle.lid_graph.specs.declared.graph.Graph.{Graph}
use Rattle.lid_graph.specs.Walks.{walk_tokens}
use Rattle.lid_graph.specs.Ratios.{IsClosedWalkNear, IsRatio}
use Rattle.lid_stations.specs.declared.placement.Placement.{Placement}
use Rattle.lid_stations.specs.Placements.{Links, station_count}
use Rattle.lid_stations.specs.Stations.{channel_at}
use Rattle.lid_stations.specs.Markings.{marking}

-- the stations of the channels up to and with c
abbrev pub stations_through : List ℕ → ℕ → ℕ
stations_through relays c = station_count (take (c + 1) relays)

-- the last station of channel c
abbrev pub last_station : Placement → ℕ → ℕ
last_station p c = stations_through p.relays c - 1

-- the placement with x further relay stations of capacity 2 after the last station of channel c
abbrev pub longer : Placement → ℕ → ℕ → Placement
longer p c x = record {
  relays = slice_set p.relays c (slice_index_or p.relays c 0 + x);
  caps = take (stations_through p.relays c) p.caps ++ (replicate x 2 ++ drop (stations_through p.relays c) p.caps);
}

-- how many further relay stations channel c has room for: it has at most 64, and all channels together at
-- most 65,536 stations
abbrev pub room : Placement → ℕ → ℕ
room p c = min (64 - slice_index_or p.relays c 0) (65536 - station_count p.relays)

-- the marked graph with x further relay stations on channel c
abbrev pub longer_marking : Links → Placement → ℕ → ℕ → Graph
longer_marking l p c x = marking l (longer p c x)

-- the node that channel c comes from, in whose component it is
abbrev pub producer : Links → ℕ → ℕ
producer l c = (channel_at l c).from

-- with x further relay stations on channel c no closed walk of its component has a ratio below a/b
abbrev pub KeepsAt : Links → Placement → ℕ → ℕ → ℕ → ℕ → Type 0
KeepsAt l p c x a b =
    (ks : List ℕ)
    → IsClosedWalkNear (longer_marking l p c x) (producer l c) ks
    → a * length ks ≤ b * walk_tokens (longer_marking l p c x) ks

-- with x further relay stations on channel c the ratio of its component is not below the present one
abbrev pub KeepsRatio : Links → Placement → ℕ → ℕ → Type 0
KeepsRatio l p c x = (a b : ℕ) → IsRatio (marking l p) (producer l c) a b → KeepsAt l p c x a b
