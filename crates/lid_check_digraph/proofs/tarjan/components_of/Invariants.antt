use Rattle.std.proofs.Common.{length}
use Rattle.lid_check_digraph.specs.Traversals.{AreComponents}
use Rattle.lid_check_digraph.proofs.tarjan.components_of.Given as goal

abbrev pub invariant-loop-rank : goal.invariant-loop-rank
invariant-loop-rank l = AreComponents (length l.graph.reads.now) l.components
