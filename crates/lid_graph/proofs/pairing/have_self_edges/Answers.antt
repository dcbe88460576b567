use Rattle.std.proofs.Common.{ℕ, below_more}
use Rattle.lid_graph.specs.Walks.{HasSelfEdge}
use Rattle.lid_graph.proofs.pairing.have_self_edges.Goals as goal

pub loop-v-preserved : goal.loop-v-preserved
loop-v-preserved c =
    below_more (λ (v : ℕ). HasSelfEdge c.args.graph.now v) c.loop-v.v c.loop-v.invariant (c.has_self_edge.ensures.0 c.if-not-has_self_edge.false)
