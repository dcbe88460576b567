use Rattle.std.proofs.Common.{◌≡◌, ◌++◌}
use Rattle.lid_base.specs.Each.{from_each}
use Rattle.lid_stations.specs.Markings.{self_edge}
use Rattle.lid_stations.proofs.marked_graph.push_self_edges.Given as goal

abbrev pub invariant-loop-v : goal.invariant-loop-v
invariant-loop-v l = l.edges.items ≡ l.fn.edges.items ++ from_each self_edge 0 l.v
