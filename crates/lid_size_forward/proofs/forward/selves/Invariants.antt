use Rattle.std.proofs.Common.{◌≡◌, map}
use Rattle.lid_stations.specs.Markings.{self_edge}
use Rattle.lid_rate.specs.Rates.{numbers_where, is_labelled}
use Rattle.lid_size_forward.proofs.forward.selves.Given as goal

abbrev pub invariant-loop-v : goal.invariant-loop-v
invariant-loop-v l = l.edges.items ≡ map self_edge (numbers_where (is_labelled l.least l.label) l.v)
