use Rattle.std.proofs.Common.{ℕ, below_more, get_or}
use Rattle.lid_rate.specs.Shown.{IsEdgeShown}
use Rattle.lid_rate.proofs.showing.are_edges_shown.Goals as goal

pub loop-k-preserved : goal.loop-k-preserved
loop-k-preserved c =
    below_more (λ (j : ℕ). IsEdgeShown c.args.graph.now j (get_or c.args.backs.now j 0) c.args.numbers.now) c.loop-k.k c.loop-k.invariant (c.is_edge_shown.ensures.0 c.if-not-is_edge_shown.false)
