use Rattle.std.proofs.Common.{◌≡◌, ◌++◌, map, drop}
use Rattle.lid_check_rules.specs.Edges.{latch_seen, typed_of}
use Rattle.lid_check_rules.proofs.edges.list_typed.Given as goal

abbrev pub invariant-loop-k : goal.invariant-loop-k
invariant-loop-k l = map latch_seen l.list.items ++ typed_of l.design (drop l.k-index l.reached) ≡ typed_of l.design l.reached
