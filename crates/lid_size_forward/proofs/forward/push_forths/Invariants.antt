use Rattle.std.proofs.Common.{◌≡◌, ◌*◌, ◌++◌, map}
use Rattle.lid_graph.specs.Walks.{edge_at}
use Rattle.lid_rate.specs.Rates.{numbers_where, is_labelled}
use Rattle.lid_size_forward.proofs.forward.push_forths.Given as goal

abbrev pub invariant-loop-station : goal.invariant-loop-station
invariant-loop-station l =
    l.edges.items ≡ l.fn.edges.items ++ map (λ s. edge_at l.graph (2 * s)) (numbers_where (λ s. is_labelled l.least l.label (edge_at l.graph (2 * s)).from) l.station)
