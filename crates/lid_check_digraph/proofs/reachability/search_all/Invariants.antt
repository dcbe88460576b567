use Rattle.std.proofs.Common.{◌+◌, ◌*◌, length}
use Rattle.lid_check_digraph.specs.PartialOrders.{unmarked}
use Rattle.lid_check_digraph.specs.Searches.{IsSearch}
use Rattle.lid_check_digraph.proofs.reachability.search_all.Given as goal

abbrev pub invariant-loop-c : goal.invariant-loop-c
invariant-loop-c l = IsSearch l.graph.reads.now l.cut l.end l.seen l.todo.items

abbrev pub decreases-loop-c : goal.decreases-loop-c
decreases-loop-c l = 2 * unmarked l.seen + length l.todo.items
