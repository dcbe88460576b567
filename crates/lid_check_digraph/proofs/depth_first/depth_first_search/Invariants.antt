use Rattle.std.proofs.Common.{◌≡◌, length}
use Rattle.lid_check_digraph.specs.PartialOrders.{AreVisitsBelow}
use Rattle.lid_check_digraph.specs.Traversals.{IsTraversal}
use Rattle.lid_check_digraph.proofs.depth_first.depth_first_search.Given as goal

abbrev pub invariant-loop-number : goal.invariant-loop-number
invariant-loop-number l = record {
  count : length l.entered.items ≡ length l.graph.reads.now;
  stack : AreVisitsBelow (length l.graph.reads.now) l.stack.items;
  traversal : IsTraversal (length l.graph.reads.now) l.traversal;
}
