use Rattle.std.proofs.Common.{◌≡◌, ◌+◌, ◌*◌, ◌≤◌, drop}
use Rattle.lid_graph.specs.Walks.{walk_tokens}
use Rattle.lid_rate_ratio.proofs.lowest_terms.tokens_on.Given as goal

abbrev pub invariant-loop-k : goal.invariant-loop-k
invariant-loop-k l = (l.tokens + walk_tokens l.graph (drop l.k-index l.walk) ≡ walk_tokens l.graph l.walk) × (l.tokens ≤ 16 * l.k-index)
