use Rattle.std.proofs.Common.{◌≡◌, ◌+◌, false, cond}
use Rattle.lid_check_digraph.specs.PartialOrders.{marked, IsPartialOrder, IsStuck}
use Rattle.lid_check_digraph.proofs.topological.take_rounds.Given as goal

abbrev pub invariant-loop-took : goal.invariant-loop-took
invariant-loop-took l = record {
  part : IsPartialOrder l.graph.reads.now l.order.items l.left;
  stuck : l.took ≡ false → IsStuck l.graph.reads.now l.left;
}

abbrev pub decreases-loop-took : goal.decreases-loop-took
decreases-loop-took l = marked l.left + cond l.took 1 0
