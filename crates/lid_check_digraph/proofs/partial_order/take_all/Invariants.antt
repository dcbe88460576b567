use Rattle.lid_check_digraph.specs.PartialOrders.{IsPartialOrder}
use Rattle.lid_check_digraph.proofs.partial_order.take_all.Given as goal

abbrev pub invariant-loop-k : goal.invariant-loop-k
invariant-loop-k l = IsPartialOrder l.graph.reads.now l.order.items l.left
