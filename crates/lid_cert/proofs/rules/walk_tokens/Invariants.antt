use Rattle.std.proofs.Common.{◌≡◌, ◌+◌, ◌*◌, ◌≤◌, length}
use Rattle.lid_graph.specs.Walks.{walk_tokens}
use Rattle.lid_cert.proofs.rules.walk_tokens.Given as goal

abbrev pub invariant-loop-rest : goal.invariant-loop-rest
invariant-loop-rest l = record {
  value : l.tokens + walk_tokens l.graph l.rest ≡ walk_tokens l.graph l.fn.walk;
  small : l.tokens + 4294967295 * length l.rest ≤ 4294967295 * length l.fn.walk;
}

abbrev pub decreases-loop-rest : goal.decreases-loop-rest
decreases-loop-rest l = length l.rest
