use Rattle.std.proofs.Common.{ℕ, below_more, arith}
use Rattle.lid_check_digraph.specs.PartialOrders.{IsUphill}
use Rattle.lid_check_digraph.proofs.tarjan.is_uphill.Goals as goal

pub loop-c-preserved : goal.loop-c-preserved
loop-c-preserved c =
    below_more (λ (k : ℕ). IsUphill c.args.graph.now.reads.now c.args.marks.now c.args.ranks.now k) c.loop-c.c c.loop-c.invariant (c.is_uphill_at.ensures c.if-not-is_uphill_at.false)

pub returns : goal.returns
returns c = λ _ k h. c.loop-c.invariant k (omega arith)
