use Rattle.std.proofs.Common.{ℕ, below_more}
use Rattle.lid_graph.specs.Walks.{AreEndsPaired}
use Rattle.lid_graph.proofs.pairing.are_edges_paired.Goals as goal

pub loop-k-preserved : goal.loop-k-preserved
loop-k-preserved c =
    below_more (λ (j : ℕ). AreEndsPaired c.args.graph.now j) c.loop-k.k c.loop-k.invariant (c.are_ends_paired.ensures.0 c.if-not-are_ends_paired.false)
