use Rattle.std.proofs.Common.{ℕ, ◌<◌, get_or}
use Rattle.lid_graph.specs.declared.graph.Edge.{Edge}
use Rattle.lid_cert.specs.Owners.{IsEdgeOwned}
use Rattle.lid_cert.proofs.owners.are_edges_owned.Given as goal

abbrev pub invariant-loop-edge : goal.invariant-loop-edge
invariant-loop-edge l = (d : Edge) (k : ℕ) → k < l.edge-index → IsEdgeOwned l.parts l.owners (get_or l.graph.edges k d)
