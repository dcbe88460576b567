use Rattle.std.proofs.Common.{◌≡◌, ◌++◌, flat_map, take}
use Rattle.lid_base.specs.Each.{from_each}
use Rattle.lid_stations.specs.Placements.{station_count}
use Rattle.lid_stations.specs.Placed.{links_in}
use Rattle.lid_stations.specs.Markings.{station_edges}
use Rattle.lid_stations.proofs.marked_graph.push_stations.Given as goal

abbrev pub invariant-loop-c : goal.invariant-loop-c
invariant-loop-c l = record {
  counted : l.station ≡ station_count (take l.c l.placed.placement.relays);
  pushed : l.edges.items ≡ l.fn.edges.items ++ flat_map (station_edges (links_in l.placed) l.placed.placement) (from_each (λ station. station) 0 l.station);
}
