use Rattle.std.proofs.Common.{◌≡◌, ◌↔◌, ◌<◌, ℕ, true, length}
use Rattle.lid_check_digraph.specs.Graphs.{flag}
use Rattle.lid_check_loops.proofs.pearls.mark_first.Given as goal

abbrev pub invariant-loop-k : goal.invariant-loop-k
invariant-loop-k l = record {
  long : length l.marks.items ≡ l.count;
  each : (j : ℕ) → (flag l.marks.items j ≡ true) ↔ (j < l.k);
}
