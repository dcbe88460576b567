use Rattle.std.proofs.Common.{ℕ, ◌<◌, length, get_or}
use Rattle.lid_check_digraph.specs.Graphs.{reads_at}
use Rattle.lid_check_digraph.proofs.adjacency.is_graph.Given as goal

abbrev pub invariant-loop-k : goal.invariant-loop-k
invariant-loop-k l = (c : ℕ) → c < l.k → (i : ℕ) → i < length (reads_at l.reads c) → get_or (reads_at l.reads c) i 0 < length l.reads
