use Rattle.std.proofs.Common.{ℕ, ◌<◌}
use Rattle.lid_check_digraph.specs.PartialOrders.{IsUphill}
use Rattle.lid_check_digraph.proofs.tarjan.is_uphill.Given as goal

abbrev pub invariant-loop-c : goal.invariant-loop-c
invariant-loop-c l = (c : ℕ) → c < l.c → IsUphill l.graph.reads.now l.marks l.ranks c
