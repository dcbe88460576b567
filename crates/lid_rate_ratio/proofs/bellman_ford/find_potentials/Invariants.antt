use Rattle.std.proofs.Common.{◌-◌}
use Rattle.lid_rate_ratio.specs.BellmanFord.{IsSettling}
use Rattle.lid_rate_ratio.proofs.bellman_ford.find_potentials.Given as goal

abbrev pub invariant-loop-grown : goal.invariant-loop-grown
invariant-loop-grown l = IsSettling l.graph l.edges l.p l.q l.rounds l.potentials.values.items l.potentials.predecessors.items

abbrev pub decreases-loop-grown : goal.decreases-loop-grown
decreases-loop-grown l = l.graph.nodes - l.rounds
