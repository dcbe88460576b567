use Rattle.std.proofs.Common.{ℕ, ◌<◌, get_or}
use Rattle.lid_rate.specs.Shown.{IsEdgeShown}
use Rattle.lid_rate.proofs.showing.are_edges_shown.Given as goal

abbrev pub invariant-loop-k : goal.invariant-loop-k
invariant-loop-k l = (j : ℕ) → j < l.k → IsEdgeShown l.graph j (get_or l.backs j 0) l.numbers
