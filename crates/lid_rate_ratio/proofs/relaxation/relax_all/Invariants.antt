use Rattle.lid_rate_ratio.proofs.Relaxing.{IsRoundSo}
use Rattle.lid_rate_ratio.proofs.relaxation.relax_all.Given as goal

abbrev pub invariant-loop-k : goal.invariant-loop-k
invariant-loop-k l = IsRoundSo l.graph l.edges l.p l.q l.k-index l.initial.potentials.values.items l.potentials.values.items l.potentials.predecessors.items l.changed
