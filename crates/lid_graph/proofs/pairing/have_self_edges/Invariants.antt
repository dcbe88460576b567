use Rattle.std.proofs.Common.{ℕ, ◌<◌}
use Rattle.lid_graph.specs.Walks.{HasSelfEdge}
use Rattle.lid_graph.proofs.pairing.have_self_edges.Given as goal

abbrev pub invariant-loop-v : goal.invariant-loop-v
invariant-loop-v l = (w : ℕ) → w < l.v → HasSelfEdge l.graph w
