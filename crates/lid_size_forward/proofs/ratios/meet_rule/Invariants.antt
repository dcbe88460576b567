use Rattle.std.proofs.Common.{ℕ, ◌<◌}
use Rattle.lid_size_laws.specs.Capacities.{IsForward}
use Rattle.lid_size_forward.specs.ForwardWalks.{IsForwardMet}
use Rattle.lid_size_forward.proofs.ratios.meet_rule.Given as goal

abbrev pub invariant-loop-k : goal.invariant-loop-k
invariant-loop-k l = (k : ℕ) → k < l.k → IsForward l.stations k → IsForwardMet l.graph l.wants l.labels k
