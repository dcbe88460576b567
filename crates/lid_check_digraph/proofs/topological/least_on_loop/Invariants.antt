use Rattle.std.proofs.Common.{ℕ, ◌<◌}
use Rattle.lid_check_digraph.specs.Graphs.{IsOnLoop}
use Rattle.lid_check_digraph.specs.PartialOrders.{SparesLoops}
use Rattle.lid_check_digraph.proofs.topological.least_on_loop.Given as goal

abbrev pub invariant-loop-k : goal.invariant-loop-k
invariant-loop-k l = record {
  spares : SparesLoops l.graph.reads.now l.cut;
  least : (j : ℕ) → j < l.k → IsOnLoop l.graph.reads.now j → ⊥;
}
