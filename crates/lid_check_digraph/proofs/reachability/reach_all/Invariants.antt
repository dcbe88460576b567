use Rattle.std.proofs.Common.{◌≡◌, ℕ, ◌↔◌, true, take}
use Rattle.lid_base.specs.Lists.{Among}
use Rattle.lid_check_digraph.specs.Graphs.{flag, IsReached}
use Rattle.lid_check_digraph.proofs.reachability.reach_all.Given as goal

abbrev pub invariant-loop-k : goal.invariant-loop-k
invariant-loop-k l =
    (c : ℕ) → Among c (take l.k-index l.order) → (flag l.reached c ≡ true) ↔ IsReached l.graph.reads.now l.cut l.starts c
