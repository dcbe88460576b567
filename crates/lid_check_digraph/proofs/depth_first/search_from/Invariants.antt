use Rattle.std.proofs.Common.{◌+◌, ◌*◌, length, vec_len}
use Rattle.lid_check_digraph.specs.PartialOrders.{unmarked, AreVisitsBelow}
use Rattle.lid_check_digraph.specs.Traversals.{IsTraversal}
use Rattle.lid_check_digraph.proofs.depth_first.search_from.Given as goal

abbrev pub invariant-loop-visit : goal.invariant-loop-visit
invariant-loop-visit l = record {
  stack : AreVisitsBelow (length l.graph.reads.now) l.stack.items;
  traversal : IsTraversal (length l.graph.reads.now) l.traversal;
}

abbrev pub decreases-loop-visit : goal.decreases-loop-visit
decreases-loop-visit l = 2 * unmarked l.entered + vec_len l.stack
