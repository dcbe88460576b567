use Rattle.std.proofs.Common.{◌-◌, length}
use Rattle.lid_rate_ratio.specs.Cycles.{IsTrace}
use Rattle.lid_rate_ratio.proofs.cycles.follow_predecessors.Given as goal

abbrev pub invariant-loop-trace : goal.invariant-loop-trace
invariant-loop-trace l = IsTrace l.graph l.predecessors l.start l.trace.chain.items l.trace.places.items l.trace.at

abbrev pub decreases-loop-trace : goal.decreases-loop-trace
decreases-loop-trace l = l.graph.nodes - length l.trace.chain.items
