use Rattle.std.proofs.Common.{◌*◌, ◌/◌}
use Rattle.lid_rate_ratio.specs.CycleRatios.{IsRated}
use Rattle.lid_rate_ratio.proofs.cycle_ratio.least_ratio.Given as goal

abbrev pub invariant-search : goal.invariant-search
invariant-search l = IsRated l.graph l.edges l.ratio.p l.ratio.q l.walk

abbrev pub decreases-search : goal.decreases-search
decreases-search l = (l.graph.nodes * l.graph.nodes * l.ratio.p) / l.ratio.q
