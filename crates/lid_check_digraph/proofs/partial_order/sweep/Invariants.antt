use Rattle.lid_check_digraph.specs.PartialOrders.{IsSwept}
use Rattle.lid_check_digraph.proofs.partial_order.sweep.Given as goal

abbrev pub invariant-loop-k : goal.invariant-loop-k
invariant-loop-k l = IsSwept l.graph.reads.now l.k l.initial.left l.order.items l.left l.took
