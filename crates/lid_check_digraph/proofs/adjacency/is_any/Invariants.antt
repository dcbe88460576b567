use Rattle.std.proofs.Common.{◌≡◌, ℕ, ◌<◌, false, get_or}
use Rattle.lid_check_digraph.specs.Graphs.{flag}
use Rattle.lid_check_digraph.proofs.adjacency.is_any.Given as goal

abbrev pub invariant-loop-number : goal.invariant-loop-number
invariant-loop-number l = (i : ℕ) → i < l.number-index → flag l.flags (get_or l.numbers i 0) ≡ false
