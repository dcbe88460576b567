use Rattle.std.proofs.Common.{ap, arith}
use Rattle.lid_graph.specs.declared.graph.Graph.{Graph}
use Rattle.lid_stations.proofs.Edges.{node_count}
use Rattle.lid_top_gen.proofs.ratio.sink_ratio.Goals as goal

pub ratio_of-requires-clause-there : goal.ratio_of-requires-clause-there
ratio_of-requires-clause-there c =
    let nodes = ap (λ (g : Graph). g.nodes) c.in_ok-graph.ensures.is in
    let count = node_count c.placed.inside.system.now c.placed.inside.placement.now in
    let least = c.placed.invariant.formed.least in
    omega (arith, nodes, count, least, c.len.ensures)
