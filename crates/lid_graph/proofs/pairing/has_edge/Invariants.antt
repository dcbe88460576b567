use Rattle.std.proofs.Common.{ℕ, ◌≡◌, ◌<◌}
use Rattle.lid_graph.specs.Walks.{edge_at}
use Rattle.lid_graph.proofs.pairing.has_edge.Given as goal

abbrev pub invariant-loop-k : goal.invariant-loop-k
invariant-loop-k l = (j : ℕ) → j < l.k → (edge_at l.graph j).from ≡ l.u → (edge_at l.graph j).to ≡ l.v → ⊥
