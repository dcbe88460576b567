use Rattle.std.proofs.Common.{◌≡◌, ◌++◌, flat_map}
use Rattle.lid_base.specs.Each.{from_each}
use Rattle.lid_stations.specs.Placed.{links_in}
use Rattle.lid_stations.specs.Markings.{station_edges}
use Rattle.lid_stations.proofs.marked_graph.push_channel.Given as goal

abbrev pub invariant-loop-place : goal.invariant-loop-place
invariant-loop-place l = l.edges.items ≡ l.fn.edges.items ++ flat_map (station_edges (links_in l.placed) l.placed.placement) (from_each (λ station. station) l.station l.place)
