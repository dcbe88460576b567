use Rattle.std.proofs.Common.{ℕ, ◌<◌}
use Rattle.lid_rate_ratio.specs.Relaxation.{IsMet}
use Rattle.lid_rate_ratio.proofs.judging.are_met.Given as goal

abbrev pub invariant-loop-k : goal.invariant-loop-k
invariant-loop-k l = (j : ℕ) → j < l.k → IsMet l.graph l.ratio.p l.ratio.q l.lags l.lags j
