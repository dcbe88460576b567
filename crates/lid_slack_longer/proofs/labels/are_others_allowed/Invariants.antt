use Rattle.std.proofs.Common.{ℕ, ◌<◌}
use Rattle.lid_graph.specs.Walks.{edge_at}
use Rattle.lid_slack_longer.specs.Labels.{IsElsewhere, IsEdgeAllowed}
use Rattle.lid_slack_longer.proofs.labels.are_others_allowed.Given as goal

abbrev pub invariant-loop-k : goal.invariant-loop-k
invariant-loop-k l = (j : ℕ) → j < l.k → IsElsewhere l.station j → IsEdgeAllowed l.labels l.a l.b (edge_at l.graph j)
