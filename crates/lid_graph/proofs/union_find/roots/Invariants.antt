use Rattle.std.proofs.Common.{ℕ, ◌≡◌, ◌<◌, length, get_or}
use Rattle.lid_graph.proofs.union_find.roots.Given as goal

abbrev pub invariant-loop-v : goal.invariant-loop-v
invariant-loop-v l = (length l.parents.items ≡ l.v) × ((w : ℕ) → w < l.v → get_or l.parents.items w 0 ≡ w)
