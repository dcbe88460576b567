-- The marked graph of a placement.
use Rattle.std.specs.Prelude.{ℕ, ◌-◌, List, [], ◌∷◌, ◌++◌, flat_map}
use Rattle.lid_base.specs.Each.{from_each}
use Rattle.lid_graph.specs.declared.graph.Edge.{Edge}
use Rattle.lid_graph.specs.declared.graph.Graph.{Graph}
use Rattle.lid_stations.specs.declared.placement.Placement.{Placement}
use Rattle.lid_stations.specs.Placements.{Links, station_count}
use Rattle.lid_stations.specs.Stations.{actor_count, filler, drainer, start_count, capacity}

-- the edge along a station, with its start tokens
abbrev pub forth : Links → Placement → ℕ → Edge
forth l p station = record { from = filler l p station; to = drainer l p station; tokens = start_count p station }

-- the edge back, with the tokens that it has room for more
abbrev pub back : Links → Placement → ℕ → Edge
back l p station = record { from = drainer l p station; to = filler l p station; tokens = capacity p station - start_count p station }

-- edges 2s and 2s + 1
abbrev pub station_edges : Links → Placement → ℕ → List Edge
station_edges l p station = forth l p station ∷ back l p station ∷ []

-- the edge from an actor to itself
abbrev pub self_edge : ℕ → Edge
self_edge v = record { from = v; to = v; tokens = 1 }

-- the actors, with two edges for each station in order, and then one for each actor
unfoldable pub marking : Links → Placement → Graph
marking l p = record {
  nodes = actor_count l p;
  edges = flat_map (station_edges l p) (from_each (λ station. station) 0 (station_count p.relays)) ++ from_each self_edge 0 (actor_count l p);
}
