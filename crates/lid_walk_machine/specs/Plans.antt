-- Plans: what the interleaving machine knows of a run, at each actor and each station.
use Rattle.std.specs.Prelude.{ℕ, List}
use Rattle.lid_base.specs.Each.{from_each}
use Rattle.lid_stations.specs.declared.placement.Placement.{Placement}
use Rattle.lid_stations.specs.Placements.{Links, station_count}
use Rattle.lid_stations.specs.Stations.{actor_count, capacity, filler, drainer}
use Rattle.lid_shell_laws.specs.Runs.{cap_of, sink_of, starts_with, drained_by, filled_by}

-- the nodes and channels of a system, its stations, how many input rows there are, and token number i of each
-- station
pub record Plan : Type 0 where
  pub links : Links
  pub placement : Placement
  pub rows : ℕ
  pub token : ℕ → ℕ → ℕ

-- how many actors and stations there are
abbrev pub actors_of : Plan → ℕ
actors_of m = actor_count m.links m.placement

abbrev pub stations_of : Plan → ℕ
stations_of m = station_count m.placement.relays

-- the number of the sink
abbrev pub sink : Plan → ℕ
sink m = sink_of m.links

-- the stations that an actor drains, in order, and those that it fills
abbrev pub ins_of : Plan → ℕ → List ℕ
ins_of m v = drained_by m.links m.placement v

abbrev pub outs_of : Plan → ℕ → List ℕ
outs_of m v = filled_by m.links m.placement v

-- the actors that drain and fill a station
abbrev pub drainer_of : Plan → ℕ → ℕ
drainer_of m station = drainer m.links m.placement station

abbrev pub filler_of : Plan → ℕ → ℕ
filler_of m station = filler m.links m.placement station

-- how often an actor fires at most
abbrev pub cap : Plan → ℕ → ℕ
cap m v = cap_of m.links m.rows v

-- how many tokens a station starts with, and how many it holds at most
abbrev pub start_of : Plan → ℕ → ℕ
start_of m station = starts_with m.placement m.rows station

abbrev pub room_of : Plan → ℕ → ℕ
room_of m station = capacity m.placement station

-- the stream of a station: a token for each row
abbrev pub stream : Plan → ℕ → List ℕ
stream m station = from_each (m.token station) 0 m.rows
