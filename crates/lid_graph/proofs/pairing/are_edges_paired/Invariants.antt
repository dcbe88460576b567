use Rattle.std.proofs.Common.{ℕ, ◌<◌}
use Rattle.lid_graph.specs.Walks.{AreEndsPaired}
use Rattle.lid_graph.proofs.pairing.are_edges_paired.Given as goal

abbrev pub invariant-loop-k : goal.invariant-loop-k
invariant-loop-k l = (j : ℕ) → j < l.k → AreEndsPaired l.graph j
