use Rattle.std.proofs.Common.{◌≡◌, ℕ, ◌<◌, ◌≤◌, false, get_or}
use Rattle.lid_check_digraph.specs.Graphs.{reads_at, flag}
use Rattle.lid_check_digraph.proofs.tarjan.is_uphill_at.Given as goal

abbrev pub invariant-loop-b : goal.invariant-loop-b
invariant-loop-b l =
    (i : ℕ)
    → i < l.b-index
    → (get_or l.ranks (get_or (reads_at l.graph.reads.now l.c) i 0) 0 ≤ get_or l.ranks l.c 0)
    × (flag l.marks (get_or (reads_at l.graph.reads.now l.c) i 0) ≡ false → get_or l.ranks (get_or (reads_at l.graph.reads.now l.c) i 0) 0 < get_or l.ranks l.c 0)
