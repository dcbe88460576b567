use Rattle.std.proofs.Common.{◌≡◌, ℕ, ◌<◌, true, false, length}
use Rattle.lid_check_digraph.specs.Graphs.{flag}
use Rattle.lid_check_digraph.proofs.topological.cut_of.Given as goal

abbrev pub invariant-loop-k : goal.invariant-loop-k
invariant-loop-k l = record {
  count : length l.cut.items ≡ length l.left;
  cut : (c : ℕ) → c < l.k → flag l.left c ≡ true → flag l.looping c ≡ true → flag l.cut.items c ≡ false;
}
